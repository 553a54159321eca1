-- The measure of `declaration`.
use Rattle.carrying.proofs.DeclarationSequences.{declaration_size}
use Rattle.carrying.proofs.declarations.+declaration.Given as goal

abbrev pub decreases-declaration : goal.decreases-declaration
decreases-declaration l = declaration_size l.work.now l.node
