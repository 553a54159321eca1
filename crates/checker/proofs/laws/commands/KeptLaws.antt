-- What `WritesRowsFrom` leaves as it was: the nodes, the rows below a node, and what stands in them; writing one row keeps the rest; and rows that follow rows.
use Prim.Native.Nat.{ℕ, zero, suc, ◌+◌, ◌<◌, ◌≤◌}
use mathlib.Core.Path.{◌≡◌, refl, sym, ap, ◌∙◌}
use mathlib.Core.List.{List, [], ◌∷◌, ◌++◌}
use native.Mathlib.Omega.{arith}
use lib.ListN.{length, get_or, set, length-set}
use Rattle.rules.specs.paper.Limits.{most_nodes}
use Rattle.rules.proofs.Basics.{append_assoc}
use Rattle.rules.specs.paper.Tree.{Formal, Command, Block, Declaration}
use Rattle.rules.specs.paper.Checker.{Meaning, Scope, register_scope}
use Rattle.reader.specs.Pack.{packed_end}
use Rattle.reader.specs.Stored.{HasWord}
use Rattle.reader.specs.StoredLaws.{SameNodes, same_formals, same_command, same_block, same_declaration}
use Rattle.typing.specs.Rows.{rows_from, rows_end, MeaningAt, code_at, function_at, HasRow, Rows, no_rows, one_row, ScopeAt}
use Rattle.checker.specs.Commands.{WritesRowsFrom, FormalsAt, CommandAt, BlockAt, DeclarationAt}

-- ---- Keeping nothing new, and keeping twice.

pub kept_nothing : (words : List ℕ) (node : ℕ) → WritesRowsFrom words words node
kept_nothing words node = record { same_length = refl; same_below = λ i h. refl; same_beyond = λ i h. refl }

pub kept_lower : {words words' : List ℕ} {low node : ℕ} → WritesRowsFrom words words' node → low ≤ node → WritesRowsFrom words words' low
kept_lower k h = record { same_length = k.same_length; same_below = λ i l. k.same_below i (omega (arith, h, l)); same_beyond = k.same_beyond }

pub kept_then : {words words' words'' : List ℕ} {low node : ℕ} → WritesRowsFrom words words' low → WritesRowsFrom words' words'' node → low ≤ node → WritesRowsFrom words words'' low
kept_then a b h =
    record {
      same_length = b.same_length ∙ a.same_length;
      same_below = λ i l. b.same_below i (omega (arith, h, l)) ∙ a.same_below i l;
      same_beyond = λ i l. b.same_beyond i l ∙ a.same_beyond i l;
    }

pub kept_nodes : {words words' : List ℕ} {node : ℕ} → WritesRowsFrom words words' node → SameNodes words words'
kept_nodes k i h = k.same_below i (omega (arith, h))

-- ---- What stands in the nodes.

pub kept_word : {words words' : List ℕ} {node : ℕ} → WritesRowsFrom words words' node → {i kind operand end : ℕ} → HasWord words i kind operand end → HasWord words' i kind operand end
kept_word k {i} h = record { word = kept_nodes k i h.place_low ∙ h.word; place_low = h.place_low; operand_low = h.operand_low; end_low = h.end_low }

module _ {words words' : List ℕ} {node : ℕ} (k : WritesRowsFrom words words' node) where
  pub kept_formals : {i count : ℕ} {fs : List Formal} → FormalsAt words i count fs → FormalsAt words' i count fs
  kept_formals a = record { next = a.next; stored = same_formals words words' (kept_nodes k) a.stored; number = a.number }

  pub kept_command : {i : ℕ} {c : Command} → CommandAt words i c → CommandAt words' i c
  kept_command a = record { depth = a.depth; next = a.next; stored = same_command words words' (kept_nodes k) a.stored }

  pub kept_block : {i : ℕ} {b : Block} → BlockAt words i b → BlockAt words' i b
  kept_block a = record { depth = a.depth; next = a.next; stored = same_block words words' (kept_nodes k) a.stored }

  pub kept_declaration : {i j : ℕ} {d : Declaration} → DeclarationAt words i j d → DeclarationAt words' i j d
  kept_declaration a = record { depth = a.depth; stored = same_declaration words words' (kept_nodes k) a.stored }

  -- ---- Rows below the node, and the scope that they hold.

  pub kept_meaning : {i : ℕ} {m : Meaning} → MeaningAt words i m → MeaningAt words' i m
  kept_meaning (code_at h) = code_at h
  kept_meaning (function_at h s) = function_at (kept_word k h) (same_formals words words' (kept_nodes k) s)

  pub kept_has_row : {i name meaning link : ℕ} → HasRow words i name meaning link → i < node → HasRow words' i name meaning link
  kept_has_row {i} h l =
      record { word = k.same_below (rows_from + i) (omega (arith, l)) ∙ h.word; node_low = h.node_low; name_low = h.name_low; meaning_low = h.meaning_low; link_low = h.link_low }

  pub kept_rows : {from to : ℕ} {Δ : Scope} → Rows words from to Δ → from ≤ node → Rows words' from to Δ
  kept_rows no_rows h = no_rows
  kept_rows (one_row r q p m s) h = one_row (kept_has_row r (omega (arith, h))) q p (kept_meaning m) (kept_rows s (omega (arith, h, r.link_low)))

  pub kept_scope : {registers scope : ℕ} {Γ : Scope} → scope ≤ node → ScopeAt words registers scope Γ → ScopeAt words' registers scope Γ
  kept_scope h s = record { own = s.own; rows = kept_rows s.rows h; whole = s.whole }

-- ---- Writing one row.

pub written_there : (words : List ℕ) (i w : ℕ) → i < length words → get_or (set words i w) i 0 ≡ w
written_there [] i w h = absurd (never h)
  where
    never : i < 0 → ⊥
    never l = omega arith
written_there (v ∷ words) zero w h = refl
written_there (v ∷ words) (suc i) w h = written_there words i w (omega (arith, h))

pub written_elsewhere : (words : List ℕ) (i j w : ℕ) → ¬ (i ≡ j) → get_or (set words i w) j 0 ≡ get_or words j 0
written_elsewhere [] i j w f = refl
written_elsewhere (v ∷ words) zero zero w f = absurd (f refl)
written_elsewhere (v ∷ words) zero (suc j) w f = refl
written_elsewhere (v ∷ words) (suc i) zero w f = refl
written_elsewhere (v ∷ words) (suc i) (suc j) w f = written_elsewhere words i j w (λ e. f (ap suc e))

pub kept_row : (words : List ℕ) (node w : ℕ) → node < most_nodes → WritesRowsFrom words (set words (rows_from + node) w) node
kept_row words node w h =
    record {
      same_length = length-set words (rows_from + node) w;
      same_below = λ i l. written_elsewhere words (rows_from + node) i w (above i l);
      same_beyond = λ i l. written_elsewhere words (rows_from + node) i w (below i l);
    }
  where
    above : (i : ℕ) → i < rows_from + node → ¬ (rows_from + node ≡ i)
    above i l e = omega arith

    below : (i : ℕ) → rows_end ≤ i → ¬ (rows_from + node ≡ i)
    below i l e = omega (arith, h)

pub row_there : (words : List ℕ) (node w : ℕ) → node < most_nodes → rows_end ≤ length words → get_or (set words (rows_from + node) w) (rows_from + node) 0 ≡ w
row_there words node w h l = written_there words (rows_from + node) w (omega (arith, h, l))

-- ---- Rows that follow rows.

pub rows_append : {words : List ℕ} {from middle to : ℕ} {Δ₂ Δ₁ : Scope} → Rows words from middle Δ₂ → Rows words middle to Δ₁ → Rows words from to (Δ₂ ++ Δ₁)
rows_append no_rows s = s
rows_append (one_row h q p m r) s = one_row h q p m (rows_append r s)

pub scope_with : {words : List ℕ} {registers scope from : ℕ} {Γ Δ : Scope} → ScopeAt words registers scope Γ → Rows words from scope Δ → ScopeAt words registers from (Δ ++ Γ)
scope_with {registers = registers} {Δ = Δ} s r =
    record { own = Δ ++ s.own; rows = rows_append r s.rows; whole = ap (λ Γ. Δ ++ Γ) s.whole ∙ sym (append_assoc Δ s.own (register_scope registers)) }

-- A node's end is the same where its word was kept.
pub kept_end : {words words' : List ℕ} {node : ℕ} (i : ℕ) → WritesRowsFrom words words' node → i < most_nodes → packed_end (get_or words' i 0) ≡ packed_end (get_or words i 0)
kept_end i k l = ap packed_end (k.same_below i (omega (arith, l)))
