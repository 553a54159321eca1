-- The page of a tree: refused where it is too short, else its lines.
use native.Mathlib.Omega.{arith}
use Rattle.reader.proofs.StandingLaws.{nodes_low}
use Rattle.calls.proofs.PageLaws.{short_page, whole_page}
use Rattle.calls.proofs.print.print_tree.Goals as goal

pub overflow_mul-nodes : goal.overflow_mul-nodes
overflow_mul-nodes c = record { fits = omega (arith, nodes_low c.requires.root_at.1) }

pub returns-then-page-nodes : goal.returns-then-page-nodes
returns-then-page-nodes c = short_page _ _ _ c.if-page-nodes.true _ c.nowhere.ensures

pub returns : goal.returns
returns c = whole_page _ _ _ _ c.if-page-nodes.false c.put_page.ensures
