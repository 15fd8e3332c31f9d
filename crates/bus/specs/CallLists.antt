-- C functions called one after another on the image that the last one left, each known by its contract alone, and which list of calls
-- is in force then.
use Rattle.std.specs.Prelude.{◌≡◌, ℕ, cond, List, [], ◌∷◌, eqb}
use Rattle.service.specs.Left.{Left, Leaves}
use Rattle.restarts.specs.Events.{an_opening, CallList, beginning_with, one_more}
use Rattle.bus.specs.Images.{Opens}
use Rattle.bus.specs.Chains.{Made, calls, opens}

-- One C function called: what it was asked, with what stood behind its references, and what it left of these, the image and the list.
pub record CallInC : Type 0 where
  pub made : Made
  pub left : Left

-- The contract of each C function, on an image: `Leaves` of a call, `Opens` of an opening, to which no list is lent.
abbrev pub MeetsInC : List ℕ → Made → Left → Type 0
MeetsInC image (calls numbers c) l = Leaves numbers image c l.number l.numbers l.image l.list
MeetsInC image (opens numbers x) l = Opens numbers image x l.number l.numbers l.image × (l.list ≡ [])

abbrev pub ChainInC : List ℕ → List CallInC → Type 0
ChainInC image [] = Unit {0}
ChainInC image (r ∷ rs) = MeetsInC image r.made r.left × ChainInC r.left.image rs

abbrev pub image_after : List ℕ → List CallInC → List ℕ
image_after image [] = image
image_after image (r ∷ rs) = image_after r.left.image rs

-- An opening that returns 0 begins a new list of calls. One that is refused leaves the image, and so the list.
abbrev pub list_with : CallList → Made → ℕ → CallList
list_with l (calls numbers c) number = one_more l c
list_with l (opens numbers x) number = cond (eqb number 0) (beginning_with (an_opening x)) l

abbrev pub list_after : CallList → List CallInC → CallList
list_after l [] = l
list_after l (r ∷ rs) = list_after (list_with l r.made r.left.number) rs
