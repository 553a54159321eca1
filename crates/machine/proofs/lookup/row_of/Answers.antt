-- row_of: find_row at the machine's own environment.
use Rattle.machine.specs.Regions.{regions}
use Rattle.machine.proofs.lookup.row_of.Goals as goal

pub find_row-requires : goal.find_row-requires
unfolding regions
find_row-requires c = record {
  work_words_in_bounds = c.requires.fits.room;
  bindings_le_most_bindings = c.requires.fits.few_bindings;
  binds_name = c.requires.binds_name;
}

pub returns : goal.returns
unfolding regions
returns c = c.find_row.ensures
