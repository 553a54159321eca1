-- The line of a node: the node, its depth, its kind's name, its operand and its end, one behind the other.
use borrow.Author.Rules.{rules}
use Rattle.page.specs.LineLaws.{node_fits, depth_fits, end_fits}
use Rattle.page.proofs.WritingLaws.{some_operand_fits, line_written}
use Rattle.page.proofs.line.put_line.Goals as goal

pub put_number-requires : goal.put_number-requires
put_number-requires c = record {
  columns_in_bounds = search rules;
  number_len_bound = node_fits _ c.requires.some_line.2.place_low;
}

pub put_number-requires-2 : goal.put_number-requires-2
put_number-requires-2 c = record {
  columns_in_bounds = search rules;
  number_len_bound = depth_fits _ c.requires.some_line.3;
}

pub put_number-requires-3 : goal.put_number-requires-3
put_number-requires-3 c = record {
  columns_in_bounds = search rules;
  number_len_bound = some_operand_fits _ c.operand.ensures c.requires.some_line;
}

pub returns : goal.returns
returns c =
    line_written _ _ _ _ _ _ _ _ _ _ _ _ c.requires.some_line c.put_number.ensures c.put_number-2.ensures c.node_kind.ensures c.put_name.ensures
    c.operand.ensures c.put_number-3.ensures c.put_number-4.ensures

pub put_number-requires-4 : goal.put_number-requires-4
put_number-requires-4 c = record {
  columns_in_bounds = search rules;
  number_len_bound = end_fits _ c.requires.some_line.2.end_low;
}
