-- The rule of Call: the mark, then the actuals one by one, the last on top.
use Prim.Native.Nat.{ℕ, suc, ◌+◌, ◌*◌, ◌/◌, ◌<◌, ◌≤◌}
use mathlib.Core.Path.{◌≡◌, refl, sym, ap, ◌∙◌, subst}
use mathlib.Core.Bool.{false}
use mathlib.Core.List.{List, [], ◌∷◌}
use native.Mathlib.Omega.{arith}
use lib.ListN.{length, get_or}
use Rattle.rules.specs.paper.Tree.{Expression, Call}
use Rattle.rules.specs.paper.Limits.{names, most_parameters, most_nodes, most_control_entries}
use Rattle.rules.specs.declared.refusals.Reason.TheVariants.{ControlEntries}
use Rattle.rules.specs.paper.States.{Environment, Store, Entry, Item, expression, command, mark, call_mark, state}
use Rattle.rules.specs.paper.Rules.{Rule, Effect, goes, put_actuals, Table}
use Rattle.rules.specs.paper.Rules as Rules
use Rattle.rules.specs.paper.Run.{judge}
use Rattle.machine.specs.Layout.{call_word}
use Rattle.reader.specs.Pack.{packed_operand, packed_end}
use Rattle.reader.specs.Stored.{HasWord, StoredActuals, no_actuals, one_actual, StoredCommand, call}
use Rattle.reader.proofs.StoredFields.{operand_is}
use Rattle.machine.specs.Regions.{regions, Fits, with_control, with_controls}
use Rattle.machine.specs.Represents.{Mode, running, ControlAs, expression_on, call_on}
use Rattle.machine.specs.Steps.{StepAnswer, Ready, Steps}
use Rattle.machine.specs.declared.Machine.{Machine}
use Rattle.std.specs.Prelude.{Ok, Err}
use Rattle.machine.proofs.state_laws.JudgeLaws.{judged_control}
use Rattle.machine.proofs.state_laws.ModelLaws.{with_items, sizes, step_withheld}
use Rattle.machine.proofs.state_laws.NodeLaws.{node_word}
use Rattle.machine.proofs.stack_laws.SharedLaws.{Put, put_regions, grown_control}
use Rattle.machine.proofs.stack_laws.RoomLaws.{Room, room_after}
use Rattle.reader.proofs.StandingLaws.{after_node, Rooted, expression_root}
use Rattle.machine.proofs.state_laws.ItemLaws.{node_end, RunningTop, command_top}

-- ---- The tree.

record CallAt (nodes : List ℕ) (i x : ℕ) (es : List Expression) : Type 0 where
  depth : ℕ
  next : ℕ
  name_low : x < names
  few : length es ≤ most_parameters
  word : HasWord nodes i 24 (x + names * length es) next
  actuals : StoredActuals nodes depth (i + 1) next es

call_at : {nodes : List ℕ} {d i j p x : ℕ} {es : List Expression} → StoredCommand nodes d i j (Call p x es) → CallAt nodes i x es
call_at {nodes} {es = es} (call {d = d} {i = i} {j = j} l g h a) =
    record { depth = d; next = j; name_low = l; few = g; word = h; actuals = subst (λ k. StoredActuals nodes d k j es) (after_node i) a }

call_effect : {C : List Item} {E : Environment} {S : Store} {L : List ℕ} {n : ℕ} {r : Rule} {p x : ℕ} {es : List Expression} {X : List Entry} {f : Effect} →
    Table C E S L n r (command (Call p x es)) X f → goes (state (put_actuals es (mark (call_mark p x (length es)) ∷ C)) X E S L n) ≡ f
call_effect Rules.call = refl

number_part : (x n : ℕ) → x < 64 → (x + 64 * n) / 64 ≡ n
number_part x n h = omega arith

actuals_length : (es : List Expression) (C : List Item) → length (put_actuals es C) ≡ length es + length C
unfolding put_actuals
actuals_length [] C = omega arith
actuals_length (e ∷ es) C = omega (arith, actuals_length es (expression e ∷ C))

-- The node's operand is the name and the number of actuals.
module _ (words : List ℕ) (m : Machine) (i word : ℕ) (known : word ≡ packed_operand (get_or words i 0)) where
  operand_of : {x : ℕ} {es : List Expression} → CallAt (regions words m).nodes i x es → word ≡ x + names * length es
  operand_of a = known ∙ operand_is (node_word words m a.word) (omega arith)

  counted : {x : ℕ} {es : List Expression} → CallAt (regions words m).nodes i x es → word / names ≡ length es
  counted {x} {es} a = ap (λ w. w / 64) (operand_of a) ∙ number_part x (length es) a.name_low

  -- A 513th control entry.
  pub call_withheld : most_control_entries < m.control + word / names + 1 → (x : ℕ) (es : List Expression) → Steps words m i (command (Call i x es))
      (Err ControlEntries) words
  call_withheld q x es C X E S L n rule f ready =
      let t = command_top (regions words m) i (Call i x es) ready.models in
      let a = call_at t.stored in
      let z = sizes words m (with_items t.control_as t.rest) in
      let fits = ready.fits in
      let all = put_actuals es (mark (call_mark i x (length es)) ∷ C) in
      subst (λ g. StepAnswer (judge false g) (Err ControlEntries) words words) (call_effect ready.applies)
      (step_withheld words ControlEntries _ _
      (judged_control all X E S L n (omega (arith, z.cells_height, fits.few_cells)) (omega (arith, z.bindings_height, fits.few_bindings))
      (omega (arith, z.control_height, q, counted a, actuals_length es (mark (call_mark i x (length es)) ∷ C))))
      refl)

-- ---- One actual after the other.

-- Control so far, and the actuals that are still to be put on it, which come to these items in all.
pub record Putting (nodes : List ℕ) (mode : Mode) (control : List ℕ) (left at : ℕ) (all : List Item) : Type 0 where
  items : List Item
  rest : List Expression
  depth : ℕ
  next : ℕ
  stored : StoredActuals nodes depth at next rest
  many : left ≡ length rest
  control_as : ControlAs nodes mode control items
  come_to : put_actuals rest items ≡ all

-- Nothing but control has changed, and whatever was to be put on it is still to be put on what it is now.
pub record Goes (words : List ℕ) (m : Machine) (left₀ at₀ : ℕ) (words' : List ℕ) (m' : Machine) (left at : ℕ) : Type 0 where
  pub room : Room left words' m'
  pub same : regions words' m' ≡ with_controls (regions words' m').control (regions words m)
  pub putting : (mode : Mode) (all : List Item) → Putting (regions words m).nodes mode (regions words m).control left₀ at₀ all →
      Putting (regions words m).nodes mode (regions words' m').control left at all

pub goes_first : {words : List ℕ} {m : Machine} {left at : ℕ} (left' : ℕ) → left ≡ left' → Room left words m → Goes words m left at words m left' at
goes_first {words} {m} {left} {at} left' is room =
    record {
      room = subst (λ k. Room k words m) is room;
      same = refl;
      putting = λ mode all. subst (λ k. Putting (regions words m).nodes mode (regions words m).control k at all) is;
    }

-- The next actual.
record Next (nodes : List ℕ) (mode : Mode) (control : List ℕ) (left at : ℕ) (all : List Item) : Type 0 where
  after : ℕ
  root : Rooted nodes at after
  rest : Putting nodes mode (at ∷ control) left after all

next_actual : {nodes : List ℕ} {mode : Mode} {control : List ℕ} {left at : ℕ} {all : List Item} → Putting nodes mode control (suc left) at all →
    Next nodes mode control left at all
next_actual {nodes} {mode} {control} {left} {at} {all} p = by p.stored p.many p.come_to
  where
    by : {depth here next : ℕ} {rest : List Expression} → StoredActuals nodes depth here next rest → suc left ≡ length rest →
        put_actuals rest p.items ≡ all → Next nodes mode control left here all
    by no_actuals q e = absurd (omega (arith, q))
    by (one_actual {d = d} {j = j} {k = k} {e = x} {es = xs} s more) q e =
        record {
          after = j;
          root = expression_root s;
          rest = record {
            items = expression x ∷ p.items;
            rest = xs;
            depth = d;
            next = k;
            stored = more;
            many = omega (arith, q);
            control_as = expression_on s p.control_as;
            come_to = unfold put_actuals in e;
          };
        }

-- None is left.
all_put : {nodes : List ℕ} {mode : Mode} {control : List ℕ} {left at : ℕ} {all : List Item} → left ≡ 0 → Putting nodes mode control left at all →
    ControlAs nodes mode control all
all_put {nodes} {mode} {control} {left} {all = all} none p = by p.rest p.many p.come_to
  where
    by : (rest : List Expression) → left ≡ length rest → put_actuals rest p.items ≡ all → ControlAs nodes mode control all
    by [] q e = subst (ControlAs nodes mode control) (no_more e) p.control_as
      where
        no_more : put_actuals [] p.items ≡ all → p.items ≡ all
        no_more h = unfold put_actuals in h
    by (x ∷ xs) q e = absurd (omega (arith, none, q))

-- ---- The loop.

module _ {words : List ℕ} {m : Machine} {left₀ at₀ : ℕ} {words' : List ℕ} {m' : Machine} {left at : ℕ} (g : Goes words m left₀ at₀ words' m' left at)
  where
    -- The next actual's place is a node's.
    pub actual_low : {mode : Mode} {all : List Item} (left' : ℕ) → left ≡ suc left' → Putting (regions words m).nodes mode
        (regions words m).control left₀ at₀ all → at < most_nodes
    actual_low {mode} {all} left' one_less p =
        (next_actual (subst (λ k. Putting (regions words m).nodes mode (regions words' m').control k at all) one_less
        (g.putting mode all p))).root.word.place_low

    pub goes_again : (after : List ℕ) (r : Machine) (next left' : ℕ) → left ≡ suc left' → Put words' m' at after r →
        next ≡ packed_end (get_or after at 0) → Goes words m left₀ at₀ after r left' next
    goes_again after r next left' one_less put q =
        record {
          room = room_after left' (subst (λ k. Room k words' m') one_less g.room) put;
          same = grown
              ∙ ap (λ ws. with_controls ws (regions words m)) (sym control_is);
          putting = further;
        }
      where
        grown : regions after r ≡ with_controls (at ∷ (regions words' m').control) (regions words m)
        grown = put_regions put ∙ ap (with_control at) g.same

        control_is : (regions after r).control ≡ at ∷ (regions words' m').control
        control_is = ap (λ κ. κ.control) grown

        further : (mode : Mode) (all : List Item) → Putting (regions words m).nodes mode (regions words m).control left₀ at₀ all →
            Putting (regions words m).nodes mode (regions after r).control left' next all
        further mode all p =
            let n = next_actual (subst (λ k. Putting (regions words m).nodes mode (regions words' m').control k at all) one_less
            (g.putting mode all p)) in
            let place = q ∙ node_end after r (subst (λ nodes. Rooted nodes at n.after) (sym (ap (λ κ. κ.nodes) grown)) n.root) in
            subst (λ ws. Putting (regions words m).nodes mode ws left' next all) (sym control_is)
            (subst (λ k. Putting (regions words m).nodes mode (at ∷ (regions words' m').control) left' k all) (sym place) n.rest)

-- ---- The whole.

module _ (words : List ℕ) (m : Machine) (i word : ℕ) (known : word ≡ packed_operand (get_or words i 0)) (first : List ℕ) (a : Machine)
    (put : Put words m (call_word word) first a) where
  -- With the mark on control all the actuals are to be put on it.
  module _ {C : List Item} {X : List Entry} {E : Environment} {S : Store} {L : List ℕ} {n : ℕ} {rule : Rule} {f : Effect} (x : ℕ)
      (es : List Expression)
      (ready : Ready words m i (command (Call i x es)) C X E S L n rule f) where
    abbrev top : RunningTop (regions words m) (λ d j. StoredCommand (regions words m).nodes d i j (Call i x es)) C X E S L n
    top = command_top (regions words m) i (Call i x es) ready.models

    abbrev all_items : List Item
    all_items = put_actuals es (mark (call_mark i x (length es)) ∷ C)

    pub begun : Putting (regions first a).nodes (running top.blocks) (regions first a).control (word / names) (i + 1) all_items
    begun =
        let tree = call_at top.stored in
        subst (λ κ. Putting κ.nodes (running top.blocks) κ.control (word / names) (i + 1) all_items) (sym (put_regions put))
        (record {
          items = mark (call_mark i x (length es)) ∷ C;
          rest = es;
          depth = tree.depth;
          next = tree.next;
          stored = tree.actuals;
          many = counted words m i word known tree;
          control_as = call_on (ap (λ w. call_word w) (operand_of words m i word known tree)) tree.name_low tree.few top.control_as;
          come_to = refl;
        })

  pub first_room : Fits words m → m.control + word / names + 1 ≤ most_control_entries → Room (word / names) first a
  first_room fits low = room_after (word / names) (record { fits = fits; left = omega (arith, low) }) put

  pub call_made : (after : List ℕ) (r : Machine) (left at : ℕ) → left ≡ 0 → Goes first a (word / names) (i + 1) after r left at →
      (x : ℕ) (es : List Expression) → Steps words m i (command (Call i x es)) (Ok r) after
  call_made after r left at none g x es C X E S L n rule f ready =
      let t = top x es ready in
      let all = all_items x es ready in
      let ws = (regions after r).control in
      let done = all_put none (g.putting (running t.blocks) all (begun x es ready)) in
      subst (λ g. StepAnswer (judge false g) (Ok r) words after) (call_effect ready.applies)
      (grown_control words m ready.fits after r ws all X E S L n (running t.blocks) t.rest
      (subst (λ nodes. ControlAs nodes (running t.blocks) ws all) (ap (λ κ. κ.nodes) (put_regions put)) done)
      g.room.fits (g.same ∙ ap (with_controls ws) (put_regions put)))
