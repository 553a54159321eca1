-- A name's meaning from what its look-up found.
use Prim.Native.Nat.{ℕ}
use mathlib.Core.Path.{◌≡◌, refl}
use mathlib.Core.List.{List}
use mathlib.Core.Option as Maybe
use Rattle.std.specs.Prelude.{Option, Some, None, Ok, Err}
use Rattle.rules.specs.declared.refusals.Refusal.TheVariants.{Unbound}
use Rattle.rules.specs.paper.Checker.{Meaning, bound_name}
use Rattle.typing.specs.Answers.{FoundAs, found_nothing, found_binding, found_register, meaning_answer}
use Rattle.typing.specs.declared.scope.Found.{Found}

pub meaning_absent : (words : List ℕ) (node : ℕ) {o : Maybe.Option Meaning} {f : Option Found} → FoundAs words o f → f ≡ None → Err (record { refusal = Unbound; place = node }) ≡ meaning_answer (bound_name node o)
meaning_absent words node found_nothing q = refl
meaning_absent words node (found_binding h) q = absurd cc
meaning_absent words node found_register q = absurd cc

pub meaning_present : (words : List ℕ) (node : ℕ) (found : Found) {o : Maybe.Option Meaning} {f : Option Found} → FoundAs words o f → f ≡ Some found → Ok found.meaning ≡ meaning_answer (bound_name node o)
meaning_present words node found found_nothing q = absurd cc
meaning_present words node found (found_binding h) q = cc
meaning_present words node found found_register q = cc
