-- `node_kind` answers the kind whose number is in the word; some kind has it.
use mathlib.Core.Path.{sym, ap, ◌∙◌}
use Rattle.rules.specs.paper.Kinds.{kind_of}
use Rattle.rules.proofs.reading.ReaderComplete.{kind_known}
use Rattle.rules.proofs.reading.ReaderNodes.{number_of}
use Rattle.rules.proofs.Basics.{missing}
use Rattle.reader.proofs.PassingLaws.{kind_found, kind_missing}
use Rattle.reader.proofs.node_kind.Goals as goal

pub unreachable-requires : goal.unreachable-requires
unreachable-requires c =
    missing (sym (kind_missing _ (sym c.kind_of.ensures ∙ c.in-None.is)) ∙ ap kind_of c.requires.known.number_is ∙ kind_known c.requires.known.kind)

pub returns : goal.returns
returns c = number_of _ _ (kind_found _ _ (sym c.kind_of.ensures ∙ c.in-Some.is))
