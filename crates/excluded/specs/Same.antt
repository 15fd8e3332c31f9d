-- Tests of lists, answers and stations that compute: of each member, and whether two are the same.
use Rattle.std.specs.Prelude.{ℕ, Bool, true, false, cond, not, ◌&&◌, List, [], ◌∷◌, eqb, get_or}
use Rattle.rules.specs.Charge.{Charge}
use Rattle.rules.specs.Site.{Feeder, State}
use Rattle.rules.specs.Calls.{Answer, refused, opened, previewed, committed, moved, planned, waiting, charging, looked, withdrawn}

-- f holds at each member
abbrev pub every : {A : Type 0} → (A → Bool) → List A → Bool
every f [] = true
every f (a ∷ l) = f a && every f l

-- b where a is true
abbrev pub where_so : Bool → Bool → Bool
where_so a b = cond a b true

-- two tests that come out the same
abbrev pub same_test : Bool → Bool → Bool
same_test a b = cond a b (not b)

abbrev pub same_each : {A : Type 0} → (A → A → Bool) → List A → List A → Bool
same_each same [] [] = true
same_each same [] (b ∷ m) = false
same_each same (a ∷ l) [] = false
same_each same (a ∷ l) (b ∷ m) = same a b && same_each same l m

abbrev pub same_list : List ℕ → List ℕ → Bool
same_list = same_each eqb

-- an answer as a number for its kind and the numbers that it gives
abbrev pub in_numbers : Answer → List ℕ
in_numbers (refused k) = 0 ∷ k ∷ []
in_numbers (opened ds) = 1 ∷ ds
in_numbers (previewed s) = 2 ∷ s ∷ []
in_numbers (committed t s) = 3 ∷ t ∷ s ∷ []
in_numbers (moved n m) = 4 ∷ n ∷ m ∷ []
in_numbers (planned c b a n) = 5 ∷ c ∷ b ∷ a ∷ n ∷ []
in_numbers (waiting s rate) = 6 ∷ s ∷ rate ∷ []
in_numbers (charging s e rate) = 7 ∷ s ∷ e ∷ rate ∷ []
in_numbers (looked n) = 8 ∷ n ∷ []
in_numbers withdrawn = 9 ∷ []

abbrev pub same_answer : Answer → Answer → Bool
same_answer a b = same_list (in_numbers a) (in_numbers b)

-- the number at place i of that list, 0 behind its end
abbrev pub number_in : ℕ → Answer → ℕ
number_in i a = get_or (in_numbers a) i 0

abbrev pub of_charge : Charge → List ℕ
of_charge c = c.ticket ∷ c.line ∷ c.order_minute ∷ c.time ∷ c.active_time ∷ c.due ∷ c.start ∷ c.rate ∷ []

abbrev pub same_charges : List Charge → List Charge → Bool
same_charges = same_each (λ c d. same_list (of_charge c) (of_charge d))

-- a feeder without its charges
abbrev pub of_feeder : Feeder → List ℕ
of_feeder g = g.limit ∷ g.percent ∷ g.bound ∷ g.tail ∷ []

abbrev pub same_feeder : Feeder → Feeder → Bool
same_feeder g h = same_list (of_feeder g) (of_feeder h) && same_charges g.charges h.charges

-- a site without its feeders
abbrev pub of_state : State → List ℕ
of_state s = s.site ∷ s.clock ∷ s.next ∷ []

abbrev pub same_state : State → State → Bool
same_state s t = same_list (of_state s) (of_state t) && same_each same_feeder s.feeders t.feeders
