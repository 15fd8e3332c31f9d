-- When a C function returns 0, and when it tells that no block differs.
use Rattle.std.specs.Prelude.{◌↔◌, ◌≡◌, ℕ, List}
use Rattle.rules.specs.Site.{State}
use Rattle.rules.specs.Calls.{Asked, open_refusals, Call, refusals, step}
use Rattle.guarantee.specs.DemandOne.{NoneApplies}
use Rattle.layout.specs.Image.{image_of}
use Rattle.layout.specs.Reading.{restoring}
use Rattle.service.specs.Left.{told, counted, told_over, called, Whole}
use Rattle.bus.specs.Images.{opened_over}

-- A call returns 0 exactly where neither the image nor the call is refused.
abbrev pub ZeroOfACall : Type 0
ZeroOfACall =
    (numbers image : List ℕ) (c : Call)
    → ((called numbers image c).number ≡ 0) ↔ (((restoring image).refusal ≡ 0) × NoneApplies (refusals (restoring image).state c))

-- An opening returns 0 exactly where the list has the size of an image, no refusal of an opening applies and one feeder is asked for.
abbrev pub ZeroOfAnOpening : Type 0
ZeroOfAnOpening =
    (numbers image : List ℕ) (x : Asked)
    → ((opened_over numbers image x).number ≡ 0) ↔ (Whole image × NoneApplies (open_refusals x) × (x.count ≡ 1))

-- A call that keeps the station, as a preview or an enquiry, tells that no block differs.
abbrev pub NoBlockDiffers : Type 0
NoBlockDiffers =
    (s : State) (c : Call)
    → (step s c).state ≡ s
    → told_over (image_of s) (step s c).answer (step s c).state ≡ counted 0 (told (step s c).answer)
