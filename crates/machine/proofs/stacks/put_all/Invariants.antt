-- put_all: the entries put so far stand on control, the last one on top.
use Rattle.std.proofs.Common.{◌≡◌, ◌+◌, ◌++◌, reverse, take}
use Rattle.machine.specs.Regions.{regions, Fits, with_controls}
use Rattle.machine.proofs.stacks.put_all.Given as goal

abbrev pub invariant-loop-item : goal.invariant-loop-item
invariant-loop-item g l = record {
  fits : Fits l.work l.after;
  height : l.after.control ≡ l.fn.m.control + l.item-index;
  regions_are : regions l.work l.after ≡ with_controls (reverse (take l.item-index l.item-items) ++ (regions l.fn.work l.fn.m).control) (regions l.fn.work l.fn.m);
}
