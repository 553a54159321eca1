-- What lies ahead of a state: control is walked from the top, with the sizes that will be there when each of its entries comes up. Each
-- entry gives a stretch of the run, with the most of each size in it and its steps. A state's size is among those of the stretches ahead
-- of it, and a step puts other stretches in the place of the first (StretchLaws.antt, NodeStretches.antt, MarkStretches.antt).
-- Names carry their function's need: an environment's are computed from its closures.
use Rattle.std.specs.Prelude.{ℕ, suc, ◌+◌, ◌-◌, List, [], ◌∷◌, ◌++◌, length, drop}
use Rattle.rules.specs.paper.Tree.{Command, Assign, Loop, CSeq, block, Call, Cond}
use Rattle.rules.specs.paper.States.{Bindable, value, closure, Environment, empty, bound, Entry, bindable, name, node, environment, locations, Mark, operator_mark, not_mark, assign_mark, loop_mark, conditional_mark, ref_mark, bind_mark, dseq_extend_mark, dseq_join_mark, extend_mark, leave_mark, call_mark, Item, expression, command, declaration, reference, abstraction, mark, State, state}
use Rattle.rules.specs.paper.Needs.{Sizes, sizes, Need, nothing, step, over, either, push_step, expression_need, Needs, need_of, over_formals, cells_left, bindings_left, bound_need, function_need, tested_need, command_need, block_need, declaration_need, names_given}
use Rattle.rules.specs.paper.Tree as Tree

-- ---- The needs that an environment carries.

unfoldable mutual
  pub bindable_need : Bindable → Need
  bindable_need (value v) = nothing
  bindable_need (closure fs b F) = block_need (over_formals fs (environment_needs F)) b

  pub environment_needs : Environment → Needs
  environment_needs empty = []
  environment_needs (bound x b E) = record { name = x; need = bindable_need b } ∷ environment_needs E

-- ---- The value stack, as far as the walk asks of it.

pub data Sketch : Type 0 where
  a_bindable : Need → Sketch
  a_name : ℕ → Sketch
  a_node : Command → Sketch
  an_environment : Needs → Sketch
  a_location_set : (count : ℕ) → Sketch

abbrev pub sketch : Entry → Sketch
sketch (bindable b) = a_bindable (bindable_need b)
sketch (name x) = a_name x
sketch (node c) = a_node c
sketch (environment E) = an_environment (environment_needs E)
sketch (locations L) = a_location_set (length L)

unfoldable pub sketches : List Entry → List Sketch
sketches [] = []
sketches (e ∷ X) = sketch e ∷ sketches X

-- What a mark takes from the value stack; the walk of a typed state never meets another sort of entry.
abbrev pub top : List Sketch → Sketch
top [] = a_location_set 0
top (s ∷ Y) = s

abbrev pub below : List Sketch → List Sketch
below [] = []
below (s ∷ Y) = Y

abbrev pub need_in : Sketch → Need
need_in (a_bindable n) = n
need_in (a_name x) = nothing
need_in (a_node c) = nothing
need_in (an_environment N) = nothing
need_in (a_location_set k) = nothing

abbrev pub name_in : Sketch → ℕ
name_in (a_bindable n) = 0
name_in (a_name x) = x
name_in (a_node c) = 0
name_in (an_environment N) = 0
name_in (a_location_set k) = 0

abbrev pub names_in : Sketch → Needs
names_in (a_bindable n) = []
names_in (a_name x) = []
names_in (a_node c) = []
names_in (an_environment N) = N
names_in (a_location_set k) = []

abbrev pub count_in : Sketch → ℕ
count_in (a_bindable n) = 0
count_in (a_name x) = 0
count_in (a_node c) = 0
count_in (an_environment N) = 0
count_in (a_location_set k) = k

-- ---- What the walk knows where an entry of control comes up.

pub record Outlook : Type 0 where
  pub values_ahead : List Sketch
  pub names_ahead : Needs
  pub cells_ahead : ℕ
  pub own_cells : ℕ  -- those of the location set
  pub bindings_ahead : ℕ

abbrev pub knowing : List Sketch → Needs → (cells own bindings : ℕ) → Outlook
knowing Y N c l b = record { values_ahead = Y; names_ahead = N; cells_ahead = c; own_cells = l; bindings_ahead = b }

abbrev pub outlook : State → Outlook
outlook (state C X E S L n) = knowing (sketches X) (environment_needs E) (length S) (length L) n

abbrev pub with_values : List Sketch → Outlook → Outlook
with_values Y o =
    record { values_ahead = Y; names_ahead = o.names_ahead; cells_ahead = o.cells_ahead; own_cells = o.own_cells; bindings_ahead = o.bindings_ahead }

abbrev pub with_names : Needs → List Sketch → Outlook → Outlook
with_names N Y o =
    record { values_ahead = Y; names_ahead = N; cells_ahead = o.cells_ahead; own_cells = o.own_cells; bindings_ahead = o.bindings_ahead }

-- A value goes on the value stack.
abbrev pub a_value : Sketch
a_value = a_bindable nothing

-- A cell is made, and its location goes on the value stack.
abbrev pub with_cell : List Sketch → Outlook → Outlook
with_cell Y o =
    record { values_ahead = a_value ∷ Y; names_ahead = o.names_ahead; cells_ahead = suc o.cells_ahead; own_cells = suc o.own_cells; bindings_ahead = o.bindings_ahead }

-- After the step of a mark.
abbrev pub after_mark : Mark → Outlook → Outlook
after_mark (operator_mark p) o = with_values (a_value ∷ below (below o.values_ahead)) o
after_mark not_mark o = with_values (a_value ∷ below o.values_ahead) o
after_mark assign_mark o = with_values (below (below o.values_ahead)) o
after_mark loop_mark o = with_values (below (below o.values_ahead)) o
after_mark conditional_mark o = with_values (below (below o.values_ahead)) o
after_mark ref_mark o = with_cell (below o.values_ahead) o
after_mark bind_mark o =
    record {
      values_ahead = an_environment (record { name = name_in (top (below o.values_ahead)); need = need_in (top o.values_ahead) } ∷ []) ∷ below (below o.values_ahead);
      names_ahead = o.names_ahead;
      cells_ahead = o.cells_ahead;
      own_cells = o.own_cells;
      bindings_ahead = suc o.bindings_ahead;
    }
after_mark dseq_extend_mark o =
    with_names (names_in (top o.values_ahead) ++ o.names_ahead) (top o.values_ahead ∷ an_environment o.names_ahead ∷ below o.values_ahead) o
after_mark dseq_join_mark o =
    with_names (names_in (top (below (below o.values_ahead))))
    (an_environment (names_in (top o.values_ahead) ++ names_in (top (below o.values_ahead))) ∷ below (below (below o.values_ahead))) o
after_mark extend_mark o = with_names (names_in (top o.values_ahead) ++ o.names_ahead) (an_environment o.names_ahead ∷ below o.values_ahead) o
after_mark (leave_mark p m) o =
    record {
      values_ahead = below (below o.values_ahead);
      names_ahead = names_in (top o.values_ahead);
      cells_ahead = o.cells_ahead - o.own_cells;
      own_cells = count_in (top (below o.values_ahead));
      bindings_ahead = m;
    }
-- after the call, whose function's Blk runs in between
after_mark (call_mark p x k) o = with_values (drop k o.values_ahead) o

-- After an entry of control is done: a node with all that it puts on control.
abbrev pub after : Item → Outlook → Outlook
after (expression e) o = with_values (a_value ∷ o.values_ahead) o
after (command c) o = o
after (declaration d) o =
    record {
      values_ahead = an_environment (names_given o.names_ahead d) ∷ o.values_ahead;
      names_ahead = o.names_ahead;
      cells_ahead = cells_left d + o.cells_ahead;
      own_cells = cells_left d + o.own_cells;
      bindings_ahead = bindings_left d + o.bindings_ahead;
    }
after (reference p e) o = with_cell o.values_ahead o
after (abstraction p fs b) o = with_values (a_bindable (block_need (over_formals fs o.names_ahead) b) ∷ o.values_ahead) o
after (mark m) o = after_mark m o

-- ---- The stretches of the run ahead.

-- The most of each size, as they are and not over what lies there already, and the steps. A Loop that has run its test runs its command and
-- then itself again or not: what it needs then is no part of the way to what stands below it.
pub data Stretch : Type 0 where
  once : Need → Stretch
  again : Need → Stretch

abbrev pub need_there : Stretch → Need
need_there (once n) = n
need_there (again n) = n

-- The steps until it is done.
abbrev pub steps_through : Stretch → ℕ
steps_through (once n) = n.steps
steps_through (again n) = 0

unfoldable pub through : List Stretch → ℕ
through [] = 0
through (s ∷ ss) = steps_through s + through ss

-- The sizes where an entry of control comes up, of control those under it.
abbrev pub lies : (height : ℕ) → Outlook → Sizes
lies h o = sizes h (length o.values_ahead) o.cells_ahead o.bindings_ahead

-- A test's mark finds the truth and the node.
abbrev pub turn_stretches : (height : ℕ) → Sketch → Outlook → List Stretch
turn_stretches h (a_bindable n) o = []
turn_stretches h (a_name x) o = []
turn_stretches h (a_node (Assign p x e)) o = []
turn_stretches h (a_node (Loop p e c)) o =
    once (over (lies h o) (tested_need (over (sizes 1 0 0 0) (command_need o.names_ahead c)))) ∷
    again (over (lies h o) (command_need o.names_ahead (Loop p e c))) ∷
    []
turn_stretches h (a_node (CSeq p c d)) o = []
turn_stretches h (a_node (block b)) o = []
turn_stretches h (a_node (Call p x es)) o = []
turn_stretches h (a_node (Cond p e c₁ c₂)) o = []
turn_stretches h (an_environment N) o = []
turn_stretches h (a_location_set k) o = []

abbrev pub choice_stretches : (height : ℕ) → Sketch → Outlook → List Stretch
choice_stretches h (a_bindable n) o = []
choice_stretches h (a_name x) o = []
choice_stretches h (a_node (Assign p x e)) o = []
choice_stretches h (a_node (Loop p e c)) o = []
choice_stretches h (a_node (CSeq p c d)) o = []
choice_stretches h (a_node (block b)) o = []
choice_stretches h (a_node (Call p x es)) o = []
choice_stretches h (a_node (Cond p e c₁ c₂)) o =
    once (over (lies h o) (tested_need (either (command_need o.names_ahead c₁) (command_need o.names_ahead c₂)))) ∷ []
choice_stretches h (an_environment N) o = []
choice_stretches h (a_location_set k) o = []

-- A mark's step over what it finds.
abbrev pub mark_stretch : Sizes → (height : ℕ) → Outlook → List Stretch
mark_stretch s h o = once (over (lies h o) (step s)) ∷ []

abbrev pub mark_stretches : (height : ℕ) → Mark → Outlook → List Stretch
mark_stretches h (operator_mark p) o = mark_stretch (sizes 1 0 0 0) h o
mark_stretches h not_mark o = mark_stretch (sizes 1 0 0 0) h o
mark_stretches h assign_mark o = mark_stretch (sizes 1 0 0 0) h o
mark_stretches h loop_mark o = turn_stretches h (top (below o.values_ahead)) (after_mark loop_mark o)
mark_stretches h conditional_mark o = choice_stretches h (top (below o.values_ahead)) (after_mark conditional_mark o)
mark_stretches h ref_mark o = mark_stretch (sizes 1 0 1 0) h o
mark_stretches h bind_mark o = mark_stretch (sizes 1 0 0 1) h o
mark_stretches h dseq_extend_mark o = mark_stretch (sizes 1 1 0 0) h o
mark_stretches h dseq_join_mark o = mark_stretch (sizes 1 0 0 0) h o
mark_stretches h extend_mark o = mark_stretch (sizes 1 0 0 0) h o
mark_stretches h (leave_mark p m) o = mark_stretch (sizes 1 0 0 0) h o
mark_stretches h (call_mark p x k) o = once (over (lies h (after_mark (call_mark p x k) o)) (function_need k (need_of x o.names_ahead))) ∷ []

abbrev pub stretches : (height : ℕ) → Item → Outlook → List Stretch
stretches h (expression e) o = once (over (lies h o) (expression_need e)) ∷ []
stretches h (command c) o = once (over (lies h o) (command_need o.names_ahead c)) ∷ []
stretches h (declaration d) o = once (over (lies h o) (declaration_need o.names_ahead d)) ∷ []
stretches h (reference p e) o = once (over (lies h o) (bound_need (Tree.Ref p e))) ∷ []
stretches h (abstraction p fs b) o = once (over (lies h o) push_step) ∷ []
stretches h (mark m) o = mark_stretches h m o

-- The walk.
unfoldable pub ahead : List Item → Outlook → List Stretch
ahead [] o = []
ahead (i ∷ C) o = stretches (length C) i o ++ ahead C (after i o)

abbrev pub ahead_of : State → List Stretch
ahead_of (state C X E S L n) = ahead C (outlook (state C X E S L n))

abbrev pub above : List Item → ℕ → ℕ
above [] h = h
above (i ∷ is) h = suc (above is h)

-- The stretches of some entries of control over so many others, and what the walk knows after them.
unfoldable pub stretches_of : (height : ℕ) → List Item → Outlook → List Stretch
stretches_of h [] o = []
stretches_of h (i ∷ is) o = stretches (above is h) i o ++ stretches_of h is (after i o)

unfoldable pub after_all : List Item → Outlook → Outlook
after_all [] o = o
after_all (i ∷ is) o = after_all is (after i o)
