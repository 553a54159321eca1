-- The values are unpacked, run on and packed again.
use Rattle.engine.proofs.BytesRun.{values_run}
use Rattle.engine.proofs.bytes.run_values.Goals as goal

pub returns : goal.returns
returns c =
    values_run c.args.image.now c.args.registers.now c.args.budget c.args.work.now _ _ _ _ _ _ c.unpack_values.ensures c.pi_run-reply.ensures c.pack_values.ensures
