-- `write` meets its contract: where the client is not connected, the call is refused as that client is. Assumes nothing.
use Rattle.service.specs.Control.Calls.{writes}
use Rattle.service.proofs.ControlLaws.Answers.{not_connected}
use Rattle.service.proofs.control.Console.write.Goals as goal

pub returns-in-Err : goal.returns-in-Err
unfolding writes
returns-in-Err c = rw (not_connected c.args.self c.args.client c.in-Err.why _ c.in-Err.ensures) c.refused.ensures
