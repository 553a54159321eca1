-- The page: the lines of one tree, the root's, from the first byte on.
use borrow.Author.Rules.{rules}
use Rattle.page.specs.ForestLaws.{root_forest}
use Rattle.page.proofs.TreeLaws.{page_put}
use Rattle.page.proofs.put_page.Goals as goal

pub put_trees-requires : goal.put_trees-requires
put_trees-requires c = record {
  most_nodes_in_bounds = c.requires.most_nodes_in_bounds;
  next_in_bounds = search rules;
  some_trees = (_, root_forest c.requires.root_at.1);
}

pub returns : goal.returns
returns c = page_put _ _ _ _ c.requires.nodes_in_bounds c.put_trees.ensures
