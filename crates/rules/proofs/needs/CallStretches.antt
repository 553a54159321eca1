-- The step at a Call: it puts the stretches of its actuals, last to first, and that of its mark in the place of its own.
use Rattle.std.specs.Prelude.{ℕ, zero, suc, ◌+◌, ◌≤◌, ◌≡◌, List, [], ◌∷◌, ◌++◌, length, drop}
use Rattle.std.proofs.Math.Path.{refl, sym, ap}
use Rattle.std.proofs.Common.{◌∙◌, inl, arith}
use Rattle.rules.proofs.Basics.{append_assoc}
use Rattle.rules.specs.paper.Tree.{Expression, Call}
use Rattle.rules.specs.paper.States.{Environment, Store, Entry, Item, expression, command, mark, call_mark, state}
use Rattle.rules.specs.paper.Rules.{put_actuals}
use Rattle.rules.specs.paper.Needs.{control, sizes, Need, nothing, over, in_turn, expression_need, actuals_need, need_of, function_need, command_need}
use Rattle.rules.proofs.needs.Outlook.{environment_needs, Sketch, a_value, sketches, Outlook, outlook, with_values, Stretch, once, through, lies, ahead}
use Rattle.rules.proofs.needs.StretchLaws.{by_figure, none_ahead, Spreads, spread_then, spread_end, spread_over, Replaced, unfolds}
use Rattle.rules.proofs.needs.NodeStretches.{own_node}

-- So many values on the value stack.
abbrev values_on : ℕ → List Sketch → List Sketch
values_on zero Y = Y
values_on (suc k) Y = a_value ∷ values_on k Y

values_on_length : (k : ℕ) (Y : List Sketch) → length (values_on k Y) ≡ k + length Y
values_on_length zero Y = omega arith
values_on_length (suc k) Y = omega (arith, values_on_length k Y)

values_on_drop : (k : ℕ) (Y : List Sketch) → drop k (values_on k Y) ≡ Y
values_on_drop zero Y = refl
values_on_drop (suc k) Y = values_on_drop k Y

abbrev with_actuals : List Expression → Outlook → Outlook
with_actuals es o = with_values (values_on (length es) o.values_ahead) o

actual_stretches : List Expression → (height : ℕ) → Outlook → List Stretch
actual_stretches [] h o = []
actual_stretches (e ∷ es) h o = actual_stretches es (suc h) o ++ (once (over (lies h (with_actuals es o)) (expression_need e)) ∷ [])

ahead_actuals : (es : List Expression) (C : List Item) (o : Outlook) → ahead (put_actuals es C) o ≡ actual_stretches es (length C) o ++ ahead C (with_actuals es o)
unfolding put_actuals ahead actual_stretches
ahead_actuals [] C o = refl
ahead_actuals (e ∷ es) C o =
    ahead_actuals es (expression e ∷ C) o
    ∙ sym (append_assoc (actual_stretches es (suc (length C)) o) (once (over (lies (length C) (with_actuals es o)) (expression_need e)) ∷ []) (ahead C (with_actuals (e ∷ es) o)))

put_length : (es : List Expression) (C : List Item) → length (put_actuals es C) ≡ length es + length C
unfolding put_actuals
put_length [] C = omega arith
put_length (e ∷ es) C = omega (arith, put_length es (expression e ∷ C))

actuals_spread : (es : List Expression) (h : ℕ) (o : Outlook) → Spreads (lies h o) (lies (length es + h) o) (actuals_need es) (actual_stretches es h o)
unfolding actuals_need actual_stretches through
actuals_spread [] h o = record { within = λ f. none_ahead; met = λ f. inl (by_figure (λ g. (over (lies h o) nothing).most g ≡ lies (0 + h) o g) (omega arith) f); counted = refl }
actuals_spread (e ∷ es) h o =
    spread_then (over (sizes 0 (length es) 0 0) (expression_need e) ∷ [])
    (spread_over (sizes 1 0 0 0) (actuals_need es) (by_figure _ (omega arith)) (by_figure _ (omega arith)) (actuals_spread es (suc h) o))
    (spread_end (over (sizes 0 (length es) 0 0) (expression_need e)) (by_figure _ (omega (arith, values_on_length (length es) o.values_ahead))) refl)

actuals_least : (es : List Expression) → length es ≤ (actuals_need es).most control
unfolding actuals_need in_turn
actuals_least [] = omega arith
actuals_least (e ∷ es) = omega (arith, actuals_least es)

module _ (C : List Item) (X : List Entry) (E : Environment) (S : Store) (L : List ℕ) (n : ℕ) where
  abbrev here : Outlook
  here = outlook (state C X E S L n)

  pub call_replaced : (p x : ℕ) (es : List Expression) →
      Replaced (state (command (Call p x es) ∷ C) X E S L n) (state (put_actuals es (mark (call_mark p x (length es)) ∷ C)) X E S L n)
  unfolding ahead command_need in_turn
  call_replaced p x es =
      unfolds (sizes 1 0 0 0) (over (sizes 1 0 0 0) (actuals_need es) ∷ called ∷ []) (actual_stretches es (suc (length C)) here ++ (once (over (lies (length C) here) called) ∷ []))
      (ahead C here) refl
      (ahead_actuals es (mark (call_mark p x (length es)) ∷ C) here
      ∙ ap (λ Y. actual_stretches es (suc (length C)) here ++ (once (over (lies (length C) (with_values Y here)) called) ∷ ahead C (with_values Y here)))
      (values_on_drop (length es) (sketches X))
      ∙ sym (append_assoc (actual_stretches es (suc (length C)) here) (once (over (lies (length C) here) called) ∷ []) (ahead C here)))
      (own_node (length C) here)
      (by_figure _ (omega (arith, put_length es (mark (call_mark p x (length es)) ∷ C), actuals_least es)))
      (spread_then (called ∷ [])
      (spread_over (sizes 1 0 0 0) (actuals_need es) (by_figure _ (omega arith)) (by_figure _ (omega (arith, put_length es (mark (call_mark p x (length es)) ∷ C))))
      (actuals_spread es (suc (length C)) here))
      (spread_end called (λ f. refl) refl))
    where
      called : Need
      called = function_need (length es) (need_of x (environment_needs E))
