-- The lists of calls in force, computed on events (specs/Cases.antt).
use mathlib.Core.Path.{refl}
use Rattle.rules.specs.Calls.{opening}
use Rattle.layout.specs.Reading.{restore_refusal}
use Rattle.restarts.specs.Cases.{CallsAfterTheSaveFallOut, LaterSaveIsStillThere, RefusedRestoreBeginsAnew, SeveralAreNotSaved, OpeningsOnTheBus}

pub restored_first : CallsAfterTheSaveFallOut
unfolding opening
restored_first = refl

pub restored_second : LaterSaveIsStillThere
unfolding opening
restored_second = refl

pub refused_restore : RefusedRestoreBeginsAnew
unfolding restore_refusal opening
refused_restore = (refl, refl, refl, refl, refl)

pub several_not_saved : SeveralAreNotSaved
unfolding opening
several_not_saved = (refl, refl)

pub opened_on_the_bus : OpeningsOnTheBus
unfolding opening
opened_on_the_bus = (refl, refl, refl)
