-- The steps at the marks of Loop and Cond, whichever way the test falls: what is ahead then was ahead before. A most that is ahead before
-- is met after one of the two ways, sooner.
use Rattle.std.specs.Prelude.{ℕ, suc, ◌+◌, ◌≤◌, ◌<◌, max, ◌≡◌, Bool, List, ◌∷◌, ◌⊎◌, length}
use Rattle.std.proofs.Math.Path.{refl}
use Rattle.std.proofs.Common.{sym, ◌∙◌, subst, ⊎_elim}
use Rattle.std.proofs.Math.Bool.{true, false}
use Rattle.std.proofs.Math.Logic.{inl, inr}
use native.Mathlib.Omega.{arith}
use Rattle.rules.specs.paper.Tree.{Expression, Command, Loop, Cond}
use Rattle.rules.specs.paper.States.{truth, Environment, Store, Entry, val, node, Item, command, mark, loop_mark, conditional_mark, State, state}
use Rattle.rules.specs.paper.Fire.{after_test, chosen}
use Rattle.rules.specs.paper.Needs.{Figure, Sizes, sizes, Need, over, in_turn, either, tested_need, Needs, command_need}
use Rattle.rules.proofs.needs.Outlook.{environment_needs, sketches, Outlook, outlook, once, again, through, lies, ahead, ahead_of}
use Rattle.rules.proofs.needs.StretchLaws.{by_figure, AllAtMost, one_ahead, Target, this, later, shown, larger}
use Rattle.rules.proofs.needs.NodeStretches.{covers, command_least}

no_size : (f : Figure) → sizes 0 0 0 0 f ≡ 0
no_size = by_figure _ (omega arith)

-- After this step everything stays within a size that everything ahead stayed within before.
pub record KeptWithin (f : Figure) (k : ℕ) (τ : State) : Type 0 where
  pub size_within : shown τ f ≤ k
  pub ahead_within : AllAtMost f k (ahead_of τ)

-- What was ahead is in the state before the step, in the one after it, or still ahead, in fewer steps.
pub data Nearer (f : Figure) (k d : ℕ) (σ τ : State) : Type 0 where
  in_first : shown σ f ≡ k → Nearer f k d σ τ
  in_second : shown τ f ≡ k → Nearer f k d σ τ
  still_ahead : {j : ℕ} → Target f k (ahead_of τ) j → j < d → Nearer f k d σ τ

-- One way or the other.
pub record OneWay (f : Figure) (k d : ℕ) (σ : State) (τ : Bool → State) : Type 0 where
  pub way : Bool
  pub nearer : Nearer f k d σ (τ way)

module _ (C : List Item) (X : List Entry) (E : Environment) (S : Store) (L : List ℕ) (n : ℕ) (b : Bool) where
  abbrev here : Outlook
  here = outlook (state C X E S L n)

  abbrev base : Sizes
  base = lies (length C) here

  abbrev names : Needs
  names = environment_needs E

  -- A test's mark finds the truth and its node.
  found_both : (c : Command) (f : Figure) → base f + sizes 1 2 0 0 f ≡ shown (state (mark loop_mark ∷ C) (val (truth b) ∷ node c ∷ X) E S L n) f
  unfolding sketches
  found_both c = by_figure _ (omega arith)

  module _ (p : ℕ) (e : Expression) (c : Command) where
    abbrev before_turn : State
    before_turn = state (mark loop_mark ∷ C) (val (truth b) ∷ node (Loop p e c) ∷ X) E S L n

    abbrev after_turn : Bool → State
    after_turn t = state (after_test t (record { place = p; test = e; body = c }) C) X E S L n

    abbrev turn : Need
    turn = over base (tested_need (over (sizes 1 0 0 0) (command_need names c)))

    abbrev whole : Need
    whole = over base (command_need names (Loop p e c))

    turn_ahead : ahead_of before_turn ≡ once turn ∷ again whole ∷ ahead C here
    unfolding ahead sketches
    turn_ahead = refl

    over_loop : (f : Figure) → (over (lies (suc (length C)) here) (command_need names c)).most f ≡ (over base (over (sizes 1 0 0 0) (command_need names c))).most f
    over_loop = by_figure _ (omega arith)

    lies_within : (f : Figure) → base f ≤ turn.most f
    unfolding tested_need in_turn
    lies_within = by_figure _ (omega arith)

    pub turn_within : (t : Bool) (f : Figure) (k : ℕ) → AllAtMost f k (ahead_of before_turn) → KeptWithin f k (after_turn t)
    unfolding ahead tested_need in_turn
    turn_within t f k h = by_way t (subst (AllAtMost f k) turn_ahead h)
      where
        body_within : (f : Figure) → (over (lies (suc (length C)) here) (command_need names c)).most f ≤ turn.most f
        body_within f = omega (arith, over_loop f)

        by_way : (t : Bool) → AllAtMost f k (once turn ∷ again whole ∷ ahead C here) → KeptWithin f k (after_turn t)
        by_way true (one_ahead l (one_ahead m g)) =
            let inside : (over (lies (suc (length C)) here) (command_need names c)).most f ≤ k = omega (arith, body_within f, l) in
            record {
              size_within = omega (arith, covers (suc (length C)) here (command_need names c) (command_least names c) f, inside);
              ahead_within = one_ahead {s = once (over (lies (suc (length C)) here) (command_need names c))} inside (one_ahead {s = once whole} m g);
            }
        by_way false (one_ahead l (one_ahead m g)) = record { size_within = omega (arith, lies_within f, l); ahead_within = g }

    pub turn_nearer : (f : Figure) (k d : ℕ) → Target f k (ahead_of before_turn) d → OneWay f k d before_turn after_turn
    unfolding ahead tested_need in_turn
    turn_nearer f k d h = by_target d (subst (λ ss. Target f k ss d) turn_ahead h)
      where
        ways : (f : Figure) → (turn.most f ≡ shown before_turn f) ⊎ (turn.most f ≡ (over (lies (suc (length C)) here) (command_need names c)).most f)
        ways f =
            larger (base f) (sizes 1 2 0 0 f) (max (sizes 1 0 0 0 f + (command_need names c).most f) (sizes 0 0 0 0 f)) (λ q. inl (q ∙ found_both (Loop p e c) f))
            (λ q. inr (q ∙ omega (arith, over_loop f, no_size f)))

        turn_steps : turn.steps ≡ suc (command_need names c).steps
        turn_steps = omega arith

        by_target : (d : ℕ) → Target f k (once turn ∷ again whole ∷ ahead C here) d → OneWay f k d before_turn after_turn
        by_target d (this q) =
            ⊎_elim (λ e. record { way = true; nearer = in_first (sym e ∙ q) })
            (λ e. record { way = true; nearer = still_ahead (this {s = once (over (lies (suc (length C)) here) (command_need names c))} (sym e ∙ q)) (omega (arith, turn_steps)) }) (ways f)
        by_target d (later (this q)) =
            record { way = true; nearer = still_ahead (later {s = once (over (lies (suc (length C)) here) (command_need names c))} (this {s = once whole} q)) (omega (arith, turn_steps)) }
        by_target d (later (later t)) = record { way = false; nearer = still_ahead t (omega (arith, turn_steps)) }

  module _ (p : ℕ) (e : Expression) (c₁ c₂ : Command) where
    abbrev before_choice : State
    before_choice = state (mark conditional_mark ∷ C) (val (truth b) ∷ node (Cond p e c₁ c₂) ∷ X) E S L n

    abbrev after_choice : Bool → State
    after_choice t = state (command (chosen t c₁ c₂) ∷ C) X E S L n

    abbrev choice : Need
    choice = over base (tested_need (either (command_need names c₁) (command_need names c₂)))

    abbrev taken : Bool → Need
    taken t = command_need names (chosen t c₁ c₂)

    choice_ahead : ahead_of before_choice ≡ once choice ∷ ahead C here
    unfolding ahead sketches
    choice_ahead = refl

    taken_within : (t : Bool) (f : Figure) → (over base (taken t)).most f ≤ choice.most f
    unfolding tested_need in_turn
    taken_within true f = omega arith
    taken_within false f = omega arith

    pub choice_within : (t : Bool) (f : Figure) (k : ℕ) → AllAtMost f k (ahead_of before_choice) → KeptWithin f k (after_choice t)
    unfolding ahead
    choice_within t f k h = by_way (subst (AllAtMost f k) choice_ahead h)
      where
        by_way : AllAtMost f k (once choice ∷ ahead C here) → KeptWithin f k (after_choice t)
        by_way (one_ahead l g) =
            let inside : (over base (taken t)).most f ≤ k = omega (arith, taken_within t f, l) in
            record {
              size_within = omega (arith, covers (length C) here (taken t) (command_least names (chosen t c₁ c₂)) f, inside);
              ahead_within = one_ahead {s = once (over base (taken t))} inside g;
            }

    taken_steps : (t : Bool) → (taken t).steps < choice.steps
    unfolding tested_need in_turn
    taken_steps true = omega arith
    taken_steps false = omega arith

    pub choice_nearer : (f : Figure) (k d : ℕ) → Target f k (ahead_of before_choice) d → OneWay f k d before_choice after_choice
    unfolding ahead tested_need in_turn
    choice_nearer f k d h = by_target d (subst (λ ss. Target f k ss d) choice_ahead h)
      where
        ways : {A : Type 0} → (choice.most f ≡ shown before_choice f → A) → ((t : Bool) → choice.most f ≡ (over base (taken t)).most f → A) → A
        ways own other =
            larger (base f) (sizes 1 2 0 0 f) (max (max ((command_need names c₁).most f) ((command_need names c₂).most f)) (sizes 0 0 0 0 f)) (λ q. own (q ∙ found_both (Cond p e c₁ c₂) f))
            (λ q.
            larger (base f) ((command_need names c₁).most f) ((command_need names c₂).most f)
            (λ g. other true (q ∙ omega (arith, no_size f) ∙ g))
            (λ g. other false (q ∙ omega (arith, no_size f) ∙ g)))

        by_target : (d : ℕ) → Target f k (once choice ∷ ahead C here) d → OneWay f k d before_choice after_choice
        by_target d (this q) =
            ways (λ g. record { way = true; nearer = in_first (sym g ∙ q) })
            (λ t g. record { way = t; nearer = still_ahead (this {s = once (over base (taken t))} (sym g ∙ q)) (taken_steps t) })
        by_target d (later {d = j} t) =
            record { way = true; nearer = still_ahead (later {s = once (over base (taken true))} t) (omega (arith, taken_steps true)) }

    -- The steps: fewer by one at least, and after one of the two ways by one.
    pub choice_counts : (t : Bool) → suc (through (ahead_of (after_choice t))) ≤ through (ahead_of before_choice)
    unfolding ahead through sketches
    choice_counts t = omega (arith, taken_steps t)

    pub choice_longest : (t : Bool) × (through (ahead_of before_choice) ≡ suc (through (ahead_of (after_choice t))))
    unfolding ahead through sketches tested_need in_turn
    choice_longest =
        larger 0 (command_need names c₁).steps (command_need names c₂).steps (λ q. (true, omega (arith, q))) (λ q. (false, omega (arith, q)))
