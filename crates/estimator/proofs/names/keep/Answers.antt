-- The row and the two words of an entry.
use native.Mathlib.Omega.{arith}
use lib.ListN.{set, length-set}
use Rattle.estimator.specs.Entries.{row_of, need_at, name_word, sizes_word}
use Rattle.estimator.proofs.EntryLaws.{entry_kept}
use Rattle.estimator.proofs.names.keep.Goals as goal

pub bounds-work-at : goal.bounds-work-at
bounds-work-at c = omega (arith, c.requires.entries_end_in_bounds, c.requires.node_lt_most_nodes, length-set c.args.work.now (row_of c.args.node) (name_word c.args.name c.args.link))

pub bounds-work-at-2 : goal.bounds-work-at-2
bounds-work-at-2 c =
    let one = set c.args.work.now (row_of c.args.node) (name_word c.args.name c.args.link) in
    omega (arith, c.requires.entries_end_in_bounds, c.requires.node_lt_most_nodes, length-set c.args.work.now (row_of c.args.node) (name_word c.args.name c.args.link), length-set one (need_at c.args.node) (sizes_word c.args.need))

pub returns : goal.returns
returns c = entry_kept c.args.work.now c.args.node c.args.name c.args.link c.args.need c.requires.entries_end_in_bounds c.requires.node_lt_most_nodes c.requires.name_lt_names c.requires.link_le_node
