-- Loads, the count of a line in a minute, and soundness (docs/RULES.md, section 1).
use Rattle.std.specs.Prelude.{ℕ, ◌+◌, ◌-◌, max, ◌≤◌, Bool, cond, ◌&&◌, List, [], ◌∷◌, ltb, leb, eqb}
use Rattle.rules.specs.Basics.{throughout}

-- What one charge draws: its rate on a line, in the minutes from `from` up to, and without, `until`.
pub record Load : Type 0 where
  pub line : ℕ
  pub rate : ℕ
  pub from : ℕ
  pub until : ℕ

-- What a charge draws wherever it starts: its rate on a line, for `time` minutes.
pub record Draw : Type 0 where
  pub line : ℕ
  pub time : ℕ
  pub rate : ℕ

abbrev pub draw : ℕ → ℕ → ℕ → Draw
draw line time rate = record { line = line; time = time; rate = rate }

-- its load, if it starts in minute s
abbrev pub load_from : Draw → ℕ → Load
load_from a s = record { line = a.line; rate = a.rate; from = s; until = s + a.time }

-- "It is active in minutes" `from` up to, and without, `until`.
abbrev pub active : Load → ℕ → Bool
active x t = leb x.from t && ltb t x.until

-- what an active load of line i adds to the count of line l
abbrev pub share : ℕ → ℕ → ℕ → ℕ
share i rate l = cond (eqb i l) rate 0

-- what a load adds to the count of line l in minute t
abbrev pub draws : Load → ℕ → ℕ → ℕ
draws x l t = cond (active x t) (share x.line x.rate l) 0

-- "The count of a line in a minute is the number of its active charges", and "a charge of rate 2 counts as two wherever
-- a line is counted"
abbrev pub count : List Load → ℕ → ℕ → ℕ
count [] l t = 0
count (x ∷ xs) l t = draws x l t + count xs l t

-- "the weighted count of all lines in a minute"
abbrev pub drawn : List Load → ℕ → ℕ
drawn [] t = 0
drawn (x ∷ xs) t = cond (active x t) x.rate 0 + drawn xs t

-- the counts of all lines in minute t
abbrev pub counts : List Load → ℕ → ℕ → ℕ
counts xs t l = count xs l t

-- the minute from which on nothing is drawn, 0 without a load
abbrev pub last_until : List Load → ℕ
last_until [] = 0
last_until (x ∷ xs) = max x.until (last_until xs)

-- What a plan of a feeder has to keep to: its limit N and bound D, the site's limit W, and what the other feeders draw
-- meanwhile, which counts as a fourth line.
pub record Limits : Type 0 where
  pub limit : ℕ
  pub bound : ℕ
  pub site : ℕ
  pub others : List Load

abbrev pub limits : ℕ → ℕ → ℕ → List Load → Limits
limits n d w others = record { limit = n; bound = d; site = w; others = others }

-- a load of another feeder: it counts for the site alone
abbrev pub elsewhere : Load → Load
elsewhere x = record { line = 4; rate = x.rate; from = x.from; until = x.until }

-- "One feeder, lines 1 to 3."
pub record IsLine (l : ℕ) : Type 0 where
  pub low : 1 ≤ l
  pub high : l ≤ 3

-- the lines of a feeder, and the fourth, which stands for the other feeders
pub record IsColumn (l : ℕ) : Type 0 where
  pub low : 1 ≤ l
  pub high : l ≤ 4

-- "Each order states a rate, 1 or 2."
pub record IsRate (r : ℕ) : Type 0 where
  pub low : 1 ≤ r
  pub high : r ≤ 2

-- f holds on lines 1 to 3
abbrev pub on_lines : (ℕ → Bool) → Bool
on_lines f = throughout f 3 1

-- "each count is at most N"
unfoldable pub limited : ℕ → (ℕ → ℕ) → Bool
limited n f = on_lines (λ l. leb (f l) n)

-- "each two counts differ by at most D"
unfoldable pub balanced : ℕ → (ℕ → ℕ) → Bool
balanced d f = on_lines (λ l. on_lines (λ m. leb (f l) (f m + d)))

-- all that is drawn: on the lines of the feeder, and elsewhere
abbrev pub whole_of : (ℕ → ℕ) → ℕ
whole_of f = f 1 + (f 2 + (f 3 + f 4))

-- "a site limit W on the weighted count of all lines in a minute"
unfoldable pub within_site : ℕ → (ℕ → ℕ) → Bool
within_site w f = leb (whole_of f) w

-- counts within both limits and the bound
abbrev pub sound_counts : Limits → (ℕ → ℕ) → Bool
sound_counts y f = (limited y.limit f && within_site y.site f) && balanced y.bound f

-- "each count is at most N", and "the site within W"
abbrev pub limit_at : Limits → List Load → ℕ → Bool
limit_at y xs t = limited y.limit (counts xs t) && within_site y.site (counts xs t)

abbrev pub balance_at : Limits → List Load → ℕ → Bool
balance_at y xs t = balanced y.bound (counts xs t)

abbrev pub sound_at : Limits → List Load → ℕ → Bool
sound_at y xs t = sound_counts y (counts xs t)

-- a test "in every minute from the clock on", for tests that hold wherever every count is 0
abbrev pub from_on : ℕ → List Load → (ℕ → Bool) → Bool
from_on clock xs test = throughout test (last_until xs - clock) clock

-- "A plan is sound when in every minute from the clock on each count is at most N and each two counts differ by at most D",
-- and the site is within W. The loads are those of the feeder and, as line 4, of the others.
unfoldable pub sound : Limits → ℕ → List Load → Bool
sound y clock xs = from_on clock xs (sound_at y xs)
