-- `console::serve` meets its contract: its turns are a chain.
use Rattle.std.proofs.Common.{◌≡◌, false}
use Rattle.station.specs.View.{Valid}
use Rattle.session.specs.Turns.{over, Reached}
use Rattle.console.proofs.serve.serve.Given as goal

abbrev pub invariant-loop : goal.invariant-loop
invariant-loop l = Reached l.session l.buffers.block × (over l.session.wants ≡ false) × Valid l.session.station
