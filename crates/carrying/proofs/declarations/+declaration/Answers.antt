-- The proof of `declaration`, which calls itself: a DSeq carries its second on what its first leaves, and anything else is a Bind. The measure is the
-- size of the tree that stands there.
use mathlib.Core.Path.{refl, sym, ap, ◌∙◌}
use native.Mathlib.Omega.{arith}
use Rattle.rules.specs.paper.Kinds.{kind_number}
use Rattle.rules.specs.declared.kinds.Kind.TheVariants.{Declaration as declaration_kind}
use Rattle.carrying.proofs.DeclarationSequences.{known_there, first_there, first_unsafe, second_there, sequence_declared, sequence_keeps}
use Rattle.carrying.proofs.declarations.+declaration.Goals as goal

pub node_kind-requires-clause-known : goal.node_kind-requires-clause-known
node_kind-requires-clause-known t c = known_there _ _ _ c.requires.some_declaration

pub declaration-requires : goal.declaration-requires
declaration-requires t c =
    let sequence = sym c.in-Declaration.ensures ∙ ap (λ k. kind_number (declaration_kind k)) c.in-DSeq.is in
    let first = first_there _ _ _ _ refl sequence c.requires.some_declaration in
    (omega (arith, first.less, c.decreases), (c.requires.regions_end_in_bounds, first.there))

pub returns-in-Err-clause-declaration_carried : goal.returns-in-Err-clause-declaration_carried
returns-in-Err-clause-declaration_carried t c =
    let sequence = sym c.in-Declaration.ensures ∙ ap (λ k. kind_number (declaration_kind k)) c.in-DSeq.is in
    first_unsafe _ _ _ _ refl sequence _ c.declaration.ensures.keeps _ c.in-Err.ensures.declaration_carried

pub declaration-requires-in-Ok : goal.declaration-requires-in-Ok
declaration-requires-in-Ok t c =
    let sequence = sym c.in-Declaration.ensures ∙ ap (λ k. kind_number (declaration_kind k)) c.in-DSeq.is in
    let second = second_there _ _ _ _ refl sequence _ c.declaration.ensures.keeps _ c.in-Ok.ensures.declaration_carried _ c.end-after.ensures c.requires.some_declaration in
    (omega (arith, second.less, c.decreases), (omega (arith, c.requires.regions_end_in_bounds, c.declaration.ensures.keeps.same_length), second.there))

pub returns-in-Ok-clause-declaration_carried : goal.returns-in-Ok-clause-declaration_carried
returns-in-Ok-clause-declaration_carried t c =
    let sequence = sym c.in-Declaration.ensures ∙ ap (λ k. kind_number (declaration_kind k)) c.in-DSeq.is in
    let keeps =
    sequence_keeps _ _ _ _ refl sequence _ c.declaration.ensures.keeps _ c.in-Ok.ensures.declaration_carried _ c.end-after.ensures _ _ c.declaration-in-Ok.ensures.declaration_carried
    c.declaration.ensures.keeps_cells c.declaration-in-Ok.ensures.keeps c.declaration-in-Ok.ensures.keeps_cells c.requires.some_declaration in sequence_declared _ _ _ _ refl sequence _ c.declaration.ensures.keeps _ c.in-Ok.ensures.declaration_carried _ c.end-after.ensures _ _ c.declaration-in-Ok.ensures.declaration_carried

pub returns-in-Ok-clause-keeps : goal.returns-in-Ok-clause-keeps
returns-in-Ok-clause-keeps t c =
    let sequence = sym c.in-Declaration.ensures ∙ ap (λ k. kind_number (declaration_kind k)) c.in-DSeq.is in
    let keeps =
    sequence_keeps _ _ _ _ refl sequence _ c.declaration.ensures.keeps _ c.in-Ok.ensures.declaration_carried _ c.end-after.ensures _ _ c.declaration-in-Ok.ensures.declaration_carried
    c.declaration.ensures.keeps_cells c.declaration-in-Ok.ensures.keeps c.declaration-in-Ok.ensures.keeps_cells c.requires.some_declaration in keeps.0

pub returns-in-Ok-clause-keeps_cells : goal.returns-in-Ok-clause-keeps_cells
returns-in-Ok-clause-keeps_cells t c =
    let sequence = sym c.in-Declaration.ensures ∙ ap (λ k. kind_number (declaration_kind k)) c.in-DSeq.is in
    let keeps =
    sequence_keeps _ _ _ _ refl sequence _ c.declaration.ensures.keeps _ c.in-Ok.ensures.declaration_carried _ c.end-after.ensures _ _ c.declaration-in-Ok.ensures.declaration_carried
    c.declaration.ensures.keeps_cells c.declaration-in-Ok.ensures.keeps c.declaration-in-Ok.ensures.keeps_cells c.requires.some_declaration in keeps.1
