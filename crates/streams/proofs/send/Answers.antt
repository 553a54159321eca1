-- The loop of writes, by the laws of a transfer.
use Rattle.std.proofs.Common.{◌≡◌, Some, Ok, Err, rules}
use Rattle.streams.specs.Transfers.{Answered}
use Rattle.streams.proofs.ByteLaws.{appended_on}
use Rattle.streams.proofs.LoopLaws.{answered_within, transfer_on, transfer_whole, transfer_nothing, transfer_failed}
use Rattle.streams.proofs.send.Goals as goal

pub loop-left-preserved : goal.loop-left-preserved
loop-left-preserved g c =
    let answered : Answered c.loop-left.left (Ok (Some c.in-Some.rest)) = rw c.in-Some.is at c.in_ok-rest.ensures.answered in
    record {
      so_far = transfer_on _ _ _ c.loop-left-test.true answered c.loop-left.invariant.so_far;
      bytes = appended_on _ _ _ _ _ _ (answered_within _ _ c.loop-left-test.true answered) c.loop-left.invariant.so_far.within
          c.loop-left.invariant.bytes (rw c.in-Some.is at c.in_ok-rest.ensures.bytes);
    }

pub returns-in_err-rest-clause-transfers : goal.returns-in_err-rest-clause-transfers
returns-in_err-rest-clause-transfers g c =
    let same : c.from_residual.result ≡ Err c.in_err-rest.field-0.0 = search rules in
    rw same (transfer_failed _ _ _ c.loop-left-test.true c.in_err-rest.ensures.answered c.loop-left.invariant.so_far)

pub returns-in-None-clause-transfers : goal.returns-in-None-clause-transfers
returns-in-None-clause-transfers g c = transfer_nothing _ _ c.loop-left-test.true (rw c.in-None.is at c.in_ok-rest.ensures.answered) c.loop-left.invariant.so_far

pub returns-clause-transfers : goal.returns-clause-transfers
returns-clause-transfers g c = transfer_whole _ _ c.loop-left-test.false c.loop-left.invariant.so_far
