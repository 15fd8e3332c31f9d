-- C calls one after another, openings among them, each on the image that the last one left.
use Rattle.std.specs.Prelude.{◌≡◌, ℕ, false, cond, List, [], ◌∷◌, length}
use Rattle.rules.specs.Site.{State}
use Rattle.rules.specs.Calls.{Asked, refused, Result, opening, Call, step, written}
use Rattle.layout.specs.Image.{image_of}
use Rattle.layout.specs.Saving.{has_one}
use Rattle.service.specs.Left.{Left, told, told_over, leaving, called, Whole}
use Rattle.bus.specs.Images.{opened_over}

-- a call with the list lent to it, or an opening; and what stood behind its references before
pub data Made : Type 0 where
  calls : List ℕ → Call → Made
  opens : List ℕ → Asked → Made

-- what it leaves of an image
abbrev pub left_by : List ℕ → Made → Left
left_by image (calls numbers c) = called numbers image c
left_by image (opens numbers x) = opened_over numbers image x

-- "it holds an image, and each of its calls restores, acts and saves"
abbrev pub chained : List ℕ → List Made → List Left
chained image [] = []
chained image (m ∷ ms) = let l : Left = left_by image m in l ∷ chained l.image ms

-- an opening of the bus: "22 covers .. saving several feeders"
abbrev pub opened_one : Asked → Result
opened_one x =
    cond (has_one (opening x).state) (opening x) (record { answer = refused 22; state = (opening x).state; list = [] })

-- an opening where a station stands: where it is refused, the image stays, and so the station
abbrev pub opening_over : State → Asked → Result
opening_over s x =
    cond (told (opened_one x).answer).is_refused
    (record { answer = (opened_one x).answer; state = s; list = (opened_one x).list })
    (opened_one x)

abbrev pub result_of : State → Made → Result
result_of s (calls numbers c) = step s c
result_of s (opens numbers x) = opening_over s x

-- the results of the rules, each for the station that the last one left
abbrev pub results_of : State → List Made → List Result
results_of s [] = []
results_of s (m ∷ ms) = result_of s m ∷ results_of (result_of s m).state ms

abbrev pub behind : Made → List ℕ
behind (calls numbers c) = numbers
behind (opens numbers x) = numbers

-- a result of the rules for a station as C has it: its number, how many blocks differ and its numbers behind the references, the image
-- of the next station, and the list
abbrev pub left_of : State → List ℕ → Result → Left
left_of s numbers r =
    leaving (told r.answer).number (written (told_over (image_of s) r.answer r.state) numbers) (image_of r.state) r.list

abbrev pub left_of_each : State → List Made → List Result → List Left
left_of_each s [] rs = []
left_of_each s (m ∷ ms) [] = []
left_of_each s (m ∷ ms) (r ∷ rs) = left_of s (behind m) r ∷ left_of_each r.state ms rs

-- Any C calls and further openings on the image of an opening that is not refused, whatever the image was before, return and leave what
-- the rules answer to the station.
abbrev pub ChainsAfterAnOpening : Type 0
ChainsAfterAnOpening =
    (numbers image : List ℕ) (x : Asked)
    → Whole image
    → length (opening x).state.feeders ≡ 1
    → (told (opening x).answer).is_refused ≡ false
    → (ms : List Made)
    → chained (opened_over numbers image x).image ms ≡ left_of_each (opening x).state ms (results_of (opening x).state ms)
