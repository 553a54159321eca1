-- The loop that binds a call's Formals: what holds each time around.
use Prim.Native.Nat.{ℕ, ◌+◌, ◌-◌, ◌%◌, ◌<◌, ◌≤◌}
use mathlib.Core.Path.{◌≡◌, refl, sym, ap, ◌∙◌, subst}
use mathlib.Core.List.{List}
use native.Mathlib.Omega.{arith}
use lib.ListN.{get_or}
use Rattle.rules.specs.paper.States.{Environment}
use Rattle.rules.specs.paper.Rules.{Matched}
use Rattle.rules.specs.paper.Limits.{names, most_bindings}
use Rattle.machine.specs.Layout.{top_payload, top_label, link}
use Rattle.reader.specs.Pack.{packed_operand}
use Rattle.machine.specs.Regions.{slot, regions, Fits, with_row, raised_rows}
use Rattle.machine.specs.Represents.{Mode}
use Rattle.frames.specs.Formals.{machine_with_formals, Binding, CanBind}
use Rattle.machine.specs.declared.Machine.{Machine}
use Rattle.machine.proofs.state_laws.ModelLaws.{fits_still}
use Rattle.frames.proofs.call_laws.FormalsLaws.{Numbers, formals_end, next_formal, formal_numbers, formal_link, formal_bound}

build : (c v e d s b n : ℕ) → Machine
build c v e d s b n = record { control = c; values = v; environment = e; declared = d; cells = s; base = b; bindings = n }

pub machine_same : (a b : Machine) → a.control ≡ b.control → a.values ≡ b.values → a.environment ≡ b.environment → a.declared ≡ b.declared →
    a.cells ≡ b.cells → a.base ≡ b.base → a.bindings ≡ b.bindings → a ≡ b
unfolding build
machine_same a b p q r s t u v =
    ap (λ x. build x a.values a.environment a.declared a.cells a.base a.bindings) p
    ∙ ap (λ x. build b.control x a.environment a.declared a.cells a.base a.bindings) q
    ∙ ap (λ x. build b.control b.values x a.declared a.cells a.base a.bindings) r
    ∙ ap (λ x. build b.control b.values b.environment x a.cells a.base a.bindings) s
    ∙ ap (λ x. build b.control b.values b.environment b.declared x a.base a.bindings) t
    ∙ ap (λ x. build b.control b.values b.environment b.declared b.cells x a.bindings) u
    ∙ ap (λ x. build b.control b.values b.environment b.declared b.cells b.base x) v

size_same : (words : List ℕ) (a b : Machine) → (regions words a).size ≡ (regions words b).size
unfolding regions
size_same words a b = refl

-- The Formals before this one are bound.
pub record Around (before : List ℕ) (m₀ : Machine) (first block : ℕ) (words : List ℕ) (m : Machine) (formal : ℕ) : Type 0 where
  pub started : first ≤ formal
  pub within : formal ≤ block
  pub fits : Fits words m
  pub machine_is : m ≡ machine_with_formals (formal - first) m.environment m₀
  pub bound_so_far : (base declared pointer : ℕ) (E : Environment) (mode : Mode) (M : Matched) →
      Binding (regions before m₀) base declared pointer E mode M (regions before m₀) first block →
      Binding (regions before m₀) base declared pointer E mode M (regions words m) formal block

module _ (before : List ℕ) (m₀ : Machine) (first block : ℕ) (can : CanBind before m₀ first block) where
  pub around_first : Fits before m₀ → Around before m₀ first block before m₀ first
  around_first f =
      record {
        started = omega arith;
        within = omega (arith, formals_end can.start.stored);
        fits = f;
        machine_is = machine_same m₀ (machine_with_formals (first - first) m₀.environment m₀) refl (omega arith) refl refl refl refl (omega arith);
        bound_so_far = λ base declared pointer E mode M σ. σ;
      }

  module _ (words : List ℕ) (m : Machine) (formal : ℕ) (around : Around before m₀ first block words m formal) (low : formal < block) where
    pub around_numbers : Numbers words m formal
    around_numbers =
        formal_numbers (regions before m₀) can.base can.declared can.pointer can.environment can.mode can.matched words m formal block
        (next_formal _ _ _ _ _ _ _ _ _ _ _ (around.bound_so_far can.base can.declared can.pointer can.environment can.mode can.matched can.start) low)

    pub some_rows_left : m₀.bindings + (block - first) ≤ most_bindings → m.bindings < most_bindings
    some_rows_left few = less (ap (λ k. k.bindings) around.machine_is) around.started
      where
        less : m.bindings ≡ m₀.bindings + (formal - first) → first ≤ formal → m.bindings < most_bindings
        less e s = omega arith

    abbrev after_one : Machine → Machine
    after_one t = record {
      control = t.control;
      values = m.values - 1;
      environment = t.bindings;
      declared = t.declared;
      cells = t.cells;
      base = t.base;
      bindings = t.bindings;
    }

    pub around_again : m₀.bindings + (block - first) ≤ most_bindings → (after : List ℕ) (t : Machine) (o row_link : ℕ) → t ≡ raised_rows m →
        o ≡ packed_operand (get_or words formal 0) →
        row_link ≡ link (o % names) (get_or words (top_label + m.values) 0) m.environment →
        regions after (raised_rows m) ≡ with_row (slot row_link (get_or words (top_payload + m.values) 0)) (regions words m) →
        Around before m₀ first block after (after_one t) (formal + 1)
    around_again few after t o row_link q name_of link_is written =
        subst (λ k. Around before m₀ first block after (after_one k) (formal + 1)) (sym q)
        (record {
          started = omega (arith, around.started);
          within = omega (arith, low);
          fits =
              fits_still words after m (after_one (raised_rows m)) around.fits
              (size_same after (after_one (raised_rows m)) (raised_rows m) ∙ ap (λ k. k.size) put)
              around.fits.few_control (omega (arith, around.fits.few_values)) (omega (arith, some_rows_left few)) around.fits.few_cells;
          machine_is =
              machine_same (after_one (raised_rows m)) (machine_with_formals (formal + 1 - first) (m.bindings + 1) m₀) (ap (λ k. k.control) is)
              (one_value_less (ap (λ k. k.values) is) around.started) refl
              (ap (λ k. k.declared) is) (ap (λ k. k.cells) is) (ap (λ k. k.base) is) (one_row_more (ap (λ k. k.bindings) is) around.started);
          bound_so_far = λ base declared pointer E mode M σ.
              formal_bound (regions before m₀) base declared pointer E mode M words m formal block
              (next_formal _ _ _ _ _ _ _ _ _ _ _ (around.bound_so_far base declared pointer E mode M σ) low) after put;
        })
      where
        put : regions after (raised_rows m) ≡ with_row (slot (formal_link words m formal) (get_or words (top_payload + m.values) 0)) (regions words m)
        put =
            subst (λ l. regions after (raised_rows m) ≡ with_row (slot l (get_or words (top_payload + m.values) 0)) (regions words m))
            (link_is ∙ ap (λ n. link (n % names) (get_or words (top_label + m.values) 0) m.environment) name_of) written

        is : m ≡ machine_with_formals (formal - first) m.environment m₀
        is = around.machine_is

        one_value_less : m.values ≡ m₀.values - (formal - first) → first ≤ formal → m.values - 1 ≡ m₀.values - (formal + 1 - first)
        one_value_less e s = omega arith

        one_row_more : m.bindings ≡ m₀.bindings + (formal - first) → first ≤ formal → m.bindings + 1 ≡ m₀.bindings + (formal + 1 - first)
        one_row_more e s = omega arith
