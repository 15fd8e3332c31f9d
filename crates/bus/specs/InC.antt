-- What is guaranteed of C functions on any image that restore accepts, and after any opening that returns 0.
use Rattle.std.specs.Prelude.{◌≡◌, ℕ, ◌+◌, ◌≤◌, List, map}
use Rattle.rules.specs.Load.{IsLine}
use Rattle.rules.specs.Site.{feeder_of}
use Rattle.rules.specs.Valid.{IsFeeder}
use Rattle.rules.specs.Calls.{Asked, step}
use Rattle.guarantee.specs.Past.{count_in, site_in}
use Rattle.layout.specs.Reading.{restoring}
use Rattle.restarts.specs.Events.{an_opening, an_image, CallList, beginning_with, left}
use Rattle.restarts.specs.Restarts.{Claimed}
use Rattle.bus.specs.Images.{Opens}
use Rattle.restarts.specs.Minutes.{first_minute, began_with, known_of}
use Rattle.bus.specs.Chains.{results_of, left_of_each}
use Rattle.bus.specs.CallLists.{CallInC, ChainInC, image_after, list_after}

-- Where a list of calls begins in C: with an image that restore accepts, wherever it comes from, or with an opening that returns 0,
-- whatever list of bytes it was lent. Behind it stand the image that the next call gets and the list of calls.
pub data BeginningInC : List ℕ → CallList → Type 0 where
  with_an_image : (image : List ℕ) → (restoring image).refusal ≡ 0 → BeginningInC image (beginning_with (an_image image))
  with_an_opening :
      (numbers before : List ℕ) (x : Asked) (number : ℕ) (behind image : List ℕ)
      → Opens numbers before x number behind image
      → number ≡ 0
      → BeginningInC image (beginning_with (an_opening x))

-- Any C functions called then, each on the image that the last one left, return and leave what the rules answer to the station of the
-- list of calls that is in force.
abbrev pub AnswersInC : Type 0
AnswersInC =
    (image : List ℕ) (l : CallList)
    → BeginningInC image l
    → (rs : List CallInC)
    → ChainInC image rs
    → map (λ r. r.left) rs ≡ left_of_each (left l) (map (λ r. r.made) rs) (results_of (left l) (map (λ r. r.made) rs))

-- The image that they leave is accepted, and is that of the station which the list in force leaves.
abbrev pub ImageInC : Type 0
ImageInC =
    (image : List ℕ) (l : CallList)
    → BeginningInC image l
    → (rs : List CallInC)
    → ChainInC image rs
    → restoring (image_after image rs) ≡ record { refusal = 0; state = left (list_after l rs) }

-- What is claimed of a list of calls holds of the one in force: of one that began with an image, that limit, balance and W hold from
-- its clock on, that charges which had begun keep their starts and are not reported again, and all else that is said of orders.
abbrev pub ClaimInC : Type 0
ClaimInC =
    (image : List ℕ) (l : CallList)
    → BeginningInC image l
    → (rs : List CallInC)
    → ChainInC image rs
    → Claimed (list_after l rs)

-- No line is above its feeder's limit, in every minute since the opening, or from the image's clock on.
abbrev pub LimitInC : Type 0
LimitInC =
    (image : List ℕ) (l : CallList)
    → BeginningInC image l
    → (rs : List CallInC)
    → ChainInC image rs
    → (f n t : ℕ)
    → IsFeeder (began_with (list_after l rs)) f
    → IsLine n
    → first_minute (list_after l rs).beginning ≤ t
    → count_in step (known_of (list_after l rs)) f n t ≤ (feeder_of (began_with (list_after l rs)) f).limit

-- No two lines of a feeder are further apart than its bound, in the same minutes.
abbrev pub BalanceInC : Type 0
BalanceInC =
    (image : List ℕ) (l : CallList)
    → BeginningInC image l
    → (rs : List CallInC)
    → ChainInC image rs
    → (f n m t : ℕ)
    → IsFeeder (began_with (list_after l rs)) f
    → IsLine n
    → IsLine m
    → first_minute (list_after l rs).beginning ≤ t
    → count_in step (known_of (list_after l rs)) f n t
    ≤ count_in step (known_of (list_after l rs)) f m t + (feeder_of (began_with (list_after l rs)) f).bound

-- All lines together are within W, in the same minutes.
abbrev pub SiteInC : Type 0
SiteInC =
    (image : List ℕ) (l : CallList)
    → BeginningInC image l
    → (rs : List CallInC)
    → ChainInC image rs
    → (t : ℕ)
    → first_minute (list_after l rs).beginning ≤ t
    → site_in step (known_of (list_after l rs)) t ≤ (began_with (list_after l rs)).site
