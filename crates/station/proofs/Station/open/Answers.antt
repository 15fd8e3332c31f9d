-- Beside a refused opening stands the least station; one that is not refused has a fresh station of its settings.
use Rattle.station.specs.Opened.{asked_of}
use Rattle.station.proofs.Opened.{open_refused, open_opened}
use Rattle.station.proofs.Station.open.Goals as goal

pub returns-in-Ok : goal.returns-in-Ok
returns-in-Ok c = open_opened c.args.asked _ _ c.in-Ok.ensures c.fresh-station.ensures c.opened.ensures

pub returns-in-Err : goal.returns-in-Err
returns-in-Err c = open_refused (asked_of c.args.asked) _ c.in-Err.ensures c.least.ensures
