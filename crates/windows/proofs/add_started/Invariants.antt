-- `windows::add_started` meets its contract. The invariant: those of the first i loads are in that begin in the window.
use Rattle.charges.specs.Drawn.{load_in}
use Rattle.windows.proofs.Extending.{Extended}
use Rattle.windows.proofs.add_started.Given as goal

abbrev pub invariant-loop-i : goal.invariant-loop-i
invariant-loop-i g l = Extended l.initial.profile l.profile (load_in l.loads.lines.now l.loads.active_times.now l.loads.starts.now l.loads.rates.now) l.window.start l.window.end l.i
