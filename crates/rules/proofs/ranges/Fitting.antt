-- The carrying of a passed image without Loop, over limits that do not cross, always has a rule (claims/Ranges.antt, CarryingFits). By induction on
-- the typing: a command keeps the cells' codes, so both commands of a Cond leave cells that can be widened.
use Rattle.std.specs.Prelude.{ℕ, zero, suc, ◌<◌, ◌≡◌, refl, Bool, cond, ◌||◌, List, [], ◌∷◌, ◌++◌, ℤ, pos, length, get_or, ◌≤ℤ◌}
use Rattle.std.proofs.Common.{sym, ◌∙◌, arith, le_of_suc-le-suc, not-suc-le-zero}
use Rattle.std.proofs.Math.Path.{subst}
use Rattle.std.proofs.Math.Bool.{true, false}
use Rattle.std.proofs.Math.Option.{Option, some}
use Rattle.std.proofs.Math.Dec.{T}
use Rattle.std.specs.Int.Signed.{lt_z, ≤ℤ_refl}
use Rattle.rules.proofs.Basics.{or_left, or_right, failed_test, false_test}
use Rattle.rules.specs.paper.Tree.{Formal, Command, Block, Declaration, Bound, Root}
use Rattle.rules.specs.paper.Checker.{Meaning, code, function, Scope, meaning_of, with_formals, register_scope, Passed}
use Rattle.rules.specs.paper.Needs.{is_loop, some_command, some_in_block, some_in_declaration, some_in_bound, some_in_root, has_loop}
use Rattle.rules.specs.paper.Carried.{Carried, truths, Carrying, carried, unsafe, unfit, ◌>>=◌, fitting}
use Rattle.rules.specs.paper.Carrying.{CarriedCells, carried_at, carry_to, wider_cells, CarriedMeaning, CarriedNames, carried_meaning, carry_formals, value_of, location_in, carry_expression, carry_actuals, same_sort, set_cell, carry_assign, carry_choosing, carry_call, CarriedDeclared, CarriedBound, carry_command, carry_block, carry_declaration, carry_bound, carry_root, register_names, register_cells, carry_routine}
use Rattle.rules.specs.paper.Ranges.{limits_cross}
use Rattle.rules.specs.claims.Typing.{CommandOk, assign, loop, cseq, block_of, call, conditional, BlockOk, blk, Gives, bind, dseq, Means, plain_of, ref, abs, RootOk, root_expression, root_command, root_absent}
use Rattle.rules.specs.claims.Ranges.{CarryingFits}
use Rattle.rules.proofs.checking.ImageExact.{check_exact}
use Rattle.rules.proofs.running.World.{World, code_at, code_newest}
use Rattle.rules.proofs.running.Continuation.{register_world}
use Rattle.rules.proofs.running.WholeRun.{world_length}
use Rattle.rules.proofs.ranges.IntegerEnds.{not_below}
use Rattle.rules.proofs.ranges.CarriedTyping.{Fits, fits_after, Given, fits_fitting, CarriedTyped, numbers_typed, truths_typed, location_typed, same, newer, CellsTyped, no_cells, one_cell, cells_length, at_typed, Kept, kept_self, kept_typed, kept_on, set_kept, wider_kept, Extends, no_more, one_more, extends_on, extends_newer, extends_typed, left_kept, ActualsTyped, FunctionTyped, MeaningTyped, value_typed, function_typed, NamesTyped, no_names, one_name, names_newer, names_append, meaning_typed, formals_typed}
use Rattle.rules.proofs.ranges.FittingExpressions.{location_at, expression_fits, actuals_fit}

-- ---- What a declaration leaves is typed in a newer world.

record DeclaredTyped (W : World) (K : CarriedCells) (Δ : Scope) (D : CarriedDeclared) : Type 0 where
  world_after : World
  extends : Extends W K world_after D.cells_after
  names : NamesTyped world_after D.names_declared Δ

record BoundTyped (W : World) (K : CarriedCells) (m : Meaning) (B : CarriedBound) : Type 0 where
  world_after : World
  extends : Extends W K world_after B.cells_after
  means : MeaningTyped world_after B.bound_as m

-- ---- Each node, from what holds of its parts.

module _ (W : World) (K : CarriedCells) (cells : CellsTyped K W) where
  -- The values of code 0 or 1 are of one sort.
  one_sort : (c : ℕ) (v w : Carried) → c < 2 → CarriedTyped W v c → CarriedTyped W w c → T (same_sort w v)
  one_sort c v w l (numbers_typed h) (numbers_typed k) = tt
  one_sort c v w l (truths_typed h) (truths_typed k) = tt
  one_sort c v w l (location_typed q) k = absurd (not-suc-le-zero (le_of_suc-le-suc (le_of_suc-le-suc l)))

  assign_fits : (c : ℕ) (v : Carried) (o : Option ℕ) → c < 2 → CarriedTyped W v c → Given (λ l. code_at l W ≡ some c) o → Fits (Kept W K) (carry_assign o v K)
  unfolding carry_assign
  assign_fits c v o few t g = subst (λ a. Fits (Kept W K) (carry_assign a v K)) (sym g.is_there) (at (at_typed g.what c cells g.holds))
    where
      by_sort : (b : Bool) → T b → Kept W K (carry_to g.what v K) → Fits (Kept W K) (cond b (carried (carry_to g.what v K)) unfit)
      by_sort true s k = k
      by_sort false s k = absurd s

      at : Given (λ w. CarriedTyped W w c) (carried_at g.what K) → Fits (Kept W K) (set_cell (some g.what) (carried_at g.what K) v K)
      at h =
          subst (λ a. Fits (Kept W K) (set_cell (some g.what) a v K)) (sym h.is_there)
          (by_sort (same_sort h.what v) (one_sort c v h.what few t h.holds) (set_kept g.what c v cells g.holds few t))

  choosing_fits : (v : Carried) (m₁ m₂ : Carrying CarriedCells) → CarriedTyped W v 1 → Fits (Kept W K) m₁ → Fits (Kept W K) m₂ → Fits (Kept W K) (carry_choosing v m₁ m₂)
  choosing_fits v m₁ m₂ (truths_typed {f = f} {t = t} h) h₁ h₂ = by f t h
    where
      by : (f t : Bool) → T (f || t) → Fits (Kept W K) (carry_choosing (truths f t) m₁ m₂)
      by true true s =
          fits_after (Kept W K) (Kept W K) m₁ _ h₁ (λ M k. fits_after (Kept W K) (Kept W K) m₂ _ h₂ (λ J i. fits_fitting (Kept W K) (wider_cells M J) (wider_kept k i)))
      by true false s = h₂
      by false true s = h₁
      by false false s = absurd s

  call_fits : {N : CarriedNames} {Γ : Scope} (x : ℕ) (fs : List Formal) (vs : List Carried) → NamesTyped W N Γ → meaning_of x Γ ≡ some (function fs) →
      ActualsTyped W vs fs →
      Fits (Kept W K) (carry_call (carried_meaning x N) vs K)
  call_fits {N} x fs vs names q ts = let g = meaning_typed x (function fs) names q in by g.what g.is_there g.holds
    where
      by : (u : CarriedMeaning) → carried_meaning x N ≡ some u → MeaningTyped W u (function fs) → Fits (Kept W K) (carry_call (carried_meaning x N) vs K)
      by u r (function_typed f) = subst (λ o. Fits (Kept W K) (carry_call o vs K)) (sym r) (f W same vs ts K cells)

-- A function's Blk is typed with the names around it, newer cells or not, and the Formals.
function_fits : {W : World} {N : CarriedNames} {Γ : Scope} (fs : List Formal) (b : Block) → NamesTyped W N Γ →
    ((U : World) (M : CarriedNames) (J : CarriedCells) → NamesTyped U M (with_formals fs Γ) → CellsTyped J U → Fits (Kept U J) (carry_block M J b)) →
    FunctionTyped W (λ vs J. fitting (carry_formals fs vs N) >>= λ F. carry_block F J b) fs
function_fits {W} {N} {Γ} fs b names fits U grown vs ts J cells =
    fits_after (λ M. NamesTyped U M (with_formals fs Γ)) (Kept U J) (fitting (carry_formals fs vs N)) _
    (fits_fitting _ (carry_formals fs vs N) (formals_typed fs vs ts (names_newer grown names))) (λ M t. fits U M J t cells)

-- ---- All nodes.

abbrev NoLoop : Bool → Type 0
NoLoop b = T b → ⊥

first_without : (a b : Bool) → NoLoop (a || b) → NoLoop a
first_without a b h t = h (or_left a b t)

second_without : (a b : Bool) → NoLoop (a || b) → NoLoop b
second_without a b h t = h (or_right a b t)

mutual
  unfolding carry_command carry_block carry_declaration carry_bound some_command some_in_block some_in_declaration some_in_bound

  command_fits : {Γ : Scope} {c : Command} → CommandOk Γ c → NoLoop (some_command is_loop c) → (W : World) (N : CarriedNames) (K : CarriedCells) → NamesTyped W N Γ →
      CellsTyped K W →
      Fits (Kept W K) (carry_command N K c)
  command_fits {Γ} (assign {x = x} {c = c} {e = e} h few q) free W N K names cells =
      fits_after (λ v. CarriedTyped W v c) (Kept W K) (carry_expression N K e) _ (expression_fits W N K Γ names cells h) (λ v t.
      assign_fits W K cells c v (location_in (value_of (carried_meaning x N))) few t (location_at W N K Γ names cells x c q))
  command_fits (loop h k) free W N K names cells = absurd (free tt)
  command_fits (cseq {c₁ = c₁} {c₂ = c₂} h k) free W N K names cells =
      fits_after (Kept W K) (Kept W K) (carry_command N K c₁) _
      (command_fits h (first_without (some_command is_loop c₁) (some_command is_loop c₂) free) W N K names cells) (λ M kept.
      fits_kept (carry_command N M c₂) kept (command_fits k (second_without (some_command is_loop c₁) (some_command is_loop c₂) free) W N M names (kept_typed kept)))
    where
      fits_kept : {W : World} {K M : CarriedCells} (m : Carrying CarriedCells) → Kept W K M → Fits (Kept W M) m → Fits (Kept W K) m
      fits_kept (carried J) kept h = kept_on kept h
      fits_kept (unsafe p) kept h = tt
      fits_kept unfit kept h = h
  command_fits (block_of h) free W N K names cells = block_fits h free W N K names cells
  command_fits {Γ} (call {x = x} {es = es} {fs = fs} h q) free W N K names cells =
      fits_after (λ vs. ActualsTyped W vs fs) (Kept W K) (carry_actuals N K es) _ (actuals_fit W N K Γ names cells h) (λ vs ts. call_fits W K cells x fs vs names q ts)
  command_fits {Γ} (conditional {e = e} {c₁ = c₁} {c₂ = c₂} h k₁ k₂) free W N K names cells =
      fits_after (λ v. CarriedTyped W v 1) (Kept W K) (carry_expression N K e) _ (expression_fits W N K Γ names cells h) (λ v t.
      choosing_fits W K cells v (carry_command N K c₁) (carry_command N K c₂) t
      (command_fits k₁ (first_without (some_command is_loop c₁) (some_command is_loop c₂) free) W N K names cells)
      (command_fits k₂ (second_without (some_command is_loop c₁) (some_command is_loop c₂) free) W N K names cells))

  block_fits : {Γ : Scope} {b : Block} → BlockOk Γ b → NoLoop (some_in_block is_loop b) → (W : World) (N : CarriedNames) (K : CarriedCells) → NamesTyped W N Γ →
      CellsTyped K W →
      Fits (Kept W K) (carry_block N K b)
  block_fits (blk {Δ = Δ} {d = d} {c = c} h k) free W N K names cells =
      fits_after (DeclaredTyped W K Δ) (Kept W K) (carry_declaration N K d) _
      (declaration_fits h (first_without (some_in_declaration is_loop d) (some_command is_loop c) free) W N K names cells) (λ D t.
      fits_after (Kept t.world_after D.cells_after) (Kept W K) (carry_command (D.names_declared ++ N) D.cells_after c) _
      (command_fits k (second_without (some_in_declaration is_loop d) (some_command is_loop c) free) t.world_after (D.names_declared ++ N) D.cells_after
      (names_append t.names (names_newer (extends_newer t.extends) names)) (extends_typed t.extends cells)) (λ M kept. left_kept t.extends kept))

  declaration_fits : {Γ Δ : Scope} {d : Declaration} → Gives Γ d Δ → NoLoop (some_in_declaration is_loop d) → (W : World) (N : CarriedNames) (K : CarriedCells) →
      NamesTyped W N Γ → CellsTyped K W →
      Fits (DeclaredTyped W K Δ) (carry_declaration N K d)
  declaration_fits (bind {Δ = Δ} {x = x} {b = b} {m = m} h q) free W N K names cells =
      fits_after (BoundTyped W K m) (DeclaredTyped W K Δ) (carry_bound N K b) _ (bound_fits h free W N K names cells) (λ B t.
      record {
        world_after = t.world_after;
        extends = t.extends;
        names = subst (NamesTyped t.world_after (record { name = x; meaning = B.bound_as } ∷ [])) (sym q) (one_name refl t.means no_names);
      })
  declaration_fits (dseq {Δ₁ = Δ₁} {Δ₂ = Δ₂} {Δ = Δ} {d₁ = d₁} {d₂ = d₂} h k apart q) free W N K names cells =
      fits_after (DeclaredTyped W K Δ₁) (DeclaredTyped W K Δ) (carry_declaration N K d₁) _
      (declaration_fits h (first_without (some_in_declaration is_loop d₁) (some_in_declaration is_loop d₂) free) W N K names cells) (λ D t.
      fits_after (DeclaredTyped t.world_after D.cells_after Δ₂) (DeclaredTyped W K Δ) (carry_declaration (D.names_declared ++ N) D.cells_after d₂) _
      (declaration_fits k (second_without (some_in_declaration is_loop d₁) (some_in_declaration is_loop d₂) free) t.world_after (D.names_declared ++ N) D.cells_after
      (names_append t.names (names_newer (extends_newer t.extends) names)) (extends_typed t.extends cells)) (λ F u.
      record {
        world_after = u.world_after;
        extends = extends_on t.extends u.extends;
        names =
            subst (NamesTyped u.world_after (F.names_declared ++ D.names_declared)) (sym q)
            (names_append u.names (names_newer (extends_newer u.extends) t.names));
      }))

  bound_fits : {Γ : Scope} {b : Bound} {m : Meaning} → Means Γ b m → NoLoop (some_in_bound is_loop b) → (W : World) (N : CarriedNames) (K : CarriedCells) →
      NamesTyped W N Γ → CellsTyped K W →
      Fits (BoundTyped W K m) (carry_bound N K b)
  bound_fits {Γ} (plain_of {e = e} {c = c} h) free W N K names cells =
      fits_after (λ v. CarriedTyped W v c) (BoundTyped W K (code c)) (carry_expression N K e) _ (expression_fits W N K Γ names cells h) (λ v t.
      record { world_after = W; extends = no_more; means = value_typed t })
  bound_fits {Γ} (ref {c = c} {e = e} h few) free W N K names cells =
      fits_after (λ v. CarriedTyped W v c) (BoundTyped W K (code (suc (suc c)))) (carry_expression N K e) _ (expression_fits W N K Γ names cells h) (λ v t.
      record {
        world_after = c ∷ W;
        extends = one_more t no_more;
        means = value_typed (location_typed (subst (λ l. code_at l (c ∷ W) ≡ some c) (sym (cells_length cells)) (code_newest W c)));
      })
  bound_fits (abs {fs = fs} {b = b} apart h) free W N K names cells =
      record { world_after = W; extends = no_more; means = function_typed (function_fits fs b names (λ U M J t k. block_fits h free U M J t k)) }

-- ---- The root, and the registers.

registers_named : (r : ℕ) → NamesTyped (register_world r) (register_names r) (register_scope r)
unfolding register_world register_names register_scope
registers_named zero = no_names
registers_named (suc r) =
    one_name refl (value_typed (location_typed (subst (λ k. code_at k (0 ∷ register_world r) ≡ some 0) (world_length r) (code_newest (register_world r) 0))))
    (names_newer (newer same) (registers_named r))

limits_ordered : (ls hs : List ℤ) → length ls ≡ length hs → limits_cross ls hs ≡ false → (i : ℕ) → get_or ls i (pos 0) ≤ℤ get_or hs i (pos 0)
unfolding limits_cross
limits_ordered [] [] q c i = ≤ℤ_refl (pos 0)
limits_ordered [] (h ∷ hs) q c i = absurd (never q)
  where
    never : 0 ≡ suc (length hs) → ⊥
    never e = omega (arith, e)
limits_ordered (l ∷ ls) [] q c i = absurd (never q)
  where
    never : suc (length ls) ≡ 0 → ⊥
    never e = omega (arith, e)
limits_ordered (l ∷ ls) (h ∷ hs) q c zero = not_below h l (false_test (lt_z h l) (λ t. failed_test c (or_left (lt_z h l) (limits_cross ls hs) t)))
limits_ordered (l ∷ ls) (h ∷ hs) q c (suc i) =
    limits_ordered ls hs (omega (arith, q)) (false_test (limits_cross ls hs) (λ t. failed_test c (or_right (lt_z h l) (limits_cross ls hs) t))) i

registers_typed : (r : ℕ) (ls hs : List ℤ) → ((i : ℕ) → get_or ls i (pos 0) ≤ℤ get_or hs i (pos 0)) → CellsTyped (register_cells r ls hs) (register_world r)
unfolding register_world register_cells
registers_typed zero ls hs ordered = no_cells
registers_typed (suc r) ls hs ordered = one_cell (numbers_typed (ordered r)) (registers_typed r ls hs ordered)

root_fits : (W : World) (N : CarriedNames) (K : CarriedCells) (Γ : Scope) {t : Root} {a : Passed} → NamesTyped W N Γ → CellsTyped K W → RootOk Γ t a →
    NoLoop (has_loop t) → Fits (Kept W K) (carry_root N K t)
unfolding carry_root has_loop some_in_root
root_fits W N K Γ names cells (root_expression {e = e} {c = c} h) free =
    fits_after (λ v. CarriedTyped W v c) (Kept W K) (carry_expression N K e) _ (expression_fits W N K Γ names cells h) (λ v t. kept_self cells)
root_fits W N K Γ names cells (root_command h) free = command_fits h free W N K names cells
root_fits W N K Γ names cells root_absent free = kept_self cells

pub carrying_fits : CarryingFits
unfolding carry_routine
carrying_fits image r t a passes straight ls hs many_low many_high ordered never =
    subst (Fits (Kept (register_world r) (register_cells r ls hs))) never
    (root_fits (register_world r) (register_names r) (register_cells r ls hs) (register_scope r) (registers_named r)
    (registers_typed r ls hs (limits_ordered ls hs (many_low ∙ sym many_high) ordered)) ((check_exact image r t a).0 passes).types (failed_test straight))
