-- Each order by the strict one: an order with equality is the strict order of the exchanged two, denied.
use Rattle.std.specs.Prelude.{◌≡◌, ℕ, ℤ, pos, negsuc, not, nat_le, nat_lt, refl}
use Rattle.std.specs.Int.Signed.{lt_z, le_z}
use Rattle.std.proofs.Common.{lt-ltb, le-ltb, le-leb}
use Rattle.std.proofs.lemmas.Bool.{lt-leb}
use Rattle.rules.proofs.Basics.{by_order}
use Rattle.rules.specs.declared.kinds.Order.TheVariants.{Lt, Le, Gt, Ge}
use Rattle.rules.specs.paper.Integers.{compare}

at_most : (a b : ℕ) → nat_le a b ≡ not (nat_lt b a)
at_most a b =
    by_order b a
    (λ below. rw (lt-leb a b below, lt-ltb b a below))
    (λ above. rw (le-leb a b above, le-ltb b a above))

not_less : (a b : ℤ) → le_z a b ≡ not (lt_z b a)
not_less (pos a) (pos b) = at_most a b
not_less (pos a) (negsuc b) = refl
not_less (negsuc a) (pos b) = refl
not_less (negsuc a) (negsuc b) = at_most b a

pub compare_lt : (a b : ℤ) → compare Lt a b ≡ lt_z a b
unfolding compare
compare_lt a b = refl

pub compare_le : (a b : ℤ) → compare Le a b ≡ not (lt_z b a)
unfolding compare
compare_le a b = not_less a b

pub compare_gt : (a b : ℤ) → compare Gt a b ≡ lt_z b a
unfolding compare
compare_gt a b = refl

pub compare_ge : (a b : ℤ) → compare Ge a b ≡ not (lt_z a b)
unfolding compare
compare_ge a b = not_less b a
