-- declaration_rule: the rule by the kind.
use Rattle.rules.specs.paper.Tree.{Bind, DSeq}
use Rattle.rules.specs.paper.States.{declaration}
use Rattle.commands.proofs.command_laws.KindLaws.{declaration_number, asked, arm, bind_there, declaration_sequence_there}
use Rattle.commands.proofs.declarations.declaration_rule.Goals as goal

pub bind-requires : goal.bind-requires
bind-requires c = asked declaration _ _ _ (Bind _) (λ d a. bind_there _ _ _ _ c.requires.which_value d a (declaration_number c.in-Bind.is))
    c.requires.applicable

pub declaration_sequence-requires : goal.declaration_sequence-requires
declaration_sequence-requires c =
    asked declaration _ _ _ (DSeq _) (λ d a. declaration_sequence_there _ _ _ _ c.requires.which_value d a (declaration_number c.in-DSeq.is))
    c.requires.applicable

pub returns-in-Bind : goal.returns-in-Bind
returns-in-Bind c = arm declaration _ _ _ (Bind _) (λ d a. bind_there _ _ _ _ c.requires.which_value d a (declaration_number c.in-Bind.is))
    _ _ c.bind.ensures

pub returns-in-DSeq : goal.returns-in-DSeq
returns-in-DSeq c =
    arm declaration _ _ _ (DSeq _) (λ d a. declaration_sequence_there _ _ _ _ c.requires.which_value d a (declaration_number c.in-DSeq.is))
    _ _ c.declaration_sequence.ensures
