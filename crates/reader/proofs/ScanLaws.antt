-- Laws of reading that hold for every sort of node: two readers whose answers agree, a node's own checks, its children by the list of
-- their sorts, and a node with its children.
use Prim.Native.Nat.{ℕ, zero, suc}
use mathlib.Core.Path.{◌≡◌, refl, sym, ap, ◌∙◌, subst}
use mathlib.Core.Bool.{Bool, true, false, cond}
use mathlib.Core.List.{List, [], ◌∷◌, ◌++◌}
use mathlib.Core.Option.{Option, none, some, some-injective, some-ne-none, none-ne-some}
use lib.Dec.{T}
use lib.ListN.{length, replicate}
use Rattle.rules.proofs.Basics.{append_nothing, append_assoc, passed_test}
use Rattle.rules.specs.declared.refusals.Refusal.{Refusal}
use Rattle.rules.specs.declared.refusals.Refusal.TheVariants as Refusals
use Rattle.rules.specs.paper.Kinds.{kind_of, operand_fits, kind_number, is_of, child_sorts}
use Rattle.rules.specs.declared.kinds.Kind.{Kind}
use Rattle.rules.specs.declared.kinds.Sort.{Sort}
use Rattle.rules.specs.paper.Reader.{Node, Got, refused, got, Read, then, ◌>>=◌, give, refuse, Header, or_refuse, node, read_many}
use Rattle.reader.specs.Pack.{node_words, all_words}
use Rattle.reader.specs.Scan.{accepting, scan_list, scan}

-- ---- Answers that agree.

-- The same answer, with the value mapped.
abbrev pub map_got : {A B : Type 0} → (A → B) → Got A → Got B
map_got f (refused x p) = refused x p
map_got f (got a j rest) = got (f a) j rest

-- Two readers whose answers agree, and what follows them.
pub then_same : {A B C D : Type 0} (f : A → B) (g : C → D) (m : Got A) (n : Got B) → map_got f m ≡ n → (k : A → Read C) (l : B → Read D) →
    ((a : A) (j : ℕ) (rest : List Node) → map_got g (k a j rest) ≡ l (f a) j rest) → map_got g (then m k) ≡ then n l
then_same f g m n q k l h = mapped m ∙ ap (λ x. then x l) q
  where
    mapped : (m : Got _) → map_got g (then m k) ≡ then (map_got f m) l
    mapped (refused x p) = refl
    mapped (got a j rest) = h a j rest

pub then_assoc : {A B C : Type 0} (m : Got A) (f : A → Read B) (g : B → Read C) → then (then m f) g ≡ then m (λ a j rest. then (f a j rest) g)
then_assoc (refused x p) f g = refl
then_assoc (got a j rest) f g = refl

-- What is read, under one more constructor.
pub then_wrapped : {A B : Type 0} (wrap : A → B) (words : B → List ℕ) (m : Got A) → map_got words (then m (λ a. give (wrap a))) ≡ map_got (λ a. words (wrap a)) m
then_wrapped wrap words (refused x p) = refl
then_wrapped wrap words (got a j rest) = refl

-- The same, with something that holds of what is read.
abbrev pub AllGot : {A : Type 0} → (A → Type 0) → Got A → Type 0
AllGot P (refused x p) = Unit {0}
AllGot P (got a j rest) = P a

pub then_same_with : {A B C D : Type 0} (P : A → Type 0) (f : A → B) (g : C → D) (m : Got A) (n : Got B) → AllGot P m → map_got f m ≡ n → (k : A → Read C) (l : B → Read D) →
    ((a : A) → P a → (j : ℕ) (rest : List Node) → map_got g (k a j rest) ≡ l (f a) j rest) → map_got g (then m k) ≡ then n l
then_same_with P f g m n all q k l h = mapped m all ∙ ap (λ x. then x l) q
  where
    mapped : (m : Got _) → AllGot P m → map_got g (then m k) ≡ then (map_got f m) l
    mapped (refused x p) c = refl
    mapped (got a j rest) c = h a c j rest

-- ---- A node's own checks.

-- The next node, by two ways of saying which sort is wanted.
abbrev map_header : {K L : Type 0} → (K → L) → Header K → Header L
map_header f h = record { place = h.place; kind = f h.kind; operand = h.operand }

unfoldable pub option_map : {A B : Type 0} → (A → B) → Option A → Option B
option_map f none = none
option_map f (some a) = some (f a)

or_refuse_same : {A B C D : Type 0} (f : A → B) (g : C → D) (x : Refusal) (p : ℕ) (o : Option A) (q : Option B) → option_map f o ≡ q → (k : A → Got C) (l : B → Got D) →
    ((a : A) → map_got g (k a) ≡ l (f a)) → map_got g (or_refuse x p o k) ≡ or_refuse x p q l
unfolding option_map
or_refuse_same f g x p none q e k l h = ap (λ y. or_refuse x p y l) e
or_refuse_same f g x p (some a) q e k l h = h a ∙ ap (λ y. or_refuse x p y l) e

or_refuse_any : {A B C : Type 0} (g : B → C) (x : Refusal) (p : ℕ) (o : Option A) (k : A → Got B) (l : A → Got C) → ((a : A) → map_got g (k a) ≡ l a) → map_got g (or_refuse x p o k) ≡ or_refuse x p o l
or_refuse_any g x p none k l h = refl
or_refuse_any g x p (some a) k l h = h a

cond_same : {B C : Type 0} (g : B → C) (t : Bool) (x y : Got B) → map_got g (cond t x y) ≡ cond t (map_got g x) (map_got g y)
cond_same g true x y = refl
cond_same g false x y = refl

node_same : {K : Type 0} (wants : Kind → Option K) (sort : Sort) (kind : K → Kind) → ((k : Kind) → option_map kind (wants k) ≡ accepting sort k) →
    (i : ℕ) (ns : List Node) → map_got (map_header kind) (node wants i ns) ≡ node (accepting sort) i ns
unfolding node
node_same wants sort kind e i [] = refl
node_same wants sort kind e i (n ∷ ns) =
    or_refuse_any (map_header kind) _ i (kind_of n.kind) _ _ (λ k.
    or_refuse_same kind (map_header kind) _ i (wants k) (accepting sort k) (e k) _ _ (λ s.
    cond_same (map_header kind) (operand_fits k n.operand) _ _))

-- ---- A node's children, by the list of their sorts.

-- the children of a node that is read, and its own word
abbrev pub finish : (k : Kind) (w p : ℕ) → List ℕ → Read (List ℕ)
finish k w p below = give (node_words (kind_number k) w p below)

abbrev pub below : (d : ℕ) → Kind → (operand place : ℕ) → Read (List ℕ)
below d k w p = scan_list (scan d) (child_sorts k w) >>= λ ws. finish k w p ws

-- A child, and what follows it: its words go before those of the children after it.
child_then : {A C : Type 0} (d : ℕ) (sort : Sort) (sorts : List Sort) (read : Read A) (words : A → List ℕ) → ((i : ℕ) (ns : List Node) → map_got words (read i ns) ≡ scan d sort i ns) →
    (next : A → Read C) (all : C → List ℕ) (last : List ℕ → Read (List ℕ)) →
    ((a : A) (j : ℕ) (rest : List Node) → map_got all (next a j rest) ≡ then (scan_list (scan d) sorts j rest) (λ ws. last (words a ++ ws))) →
    (i : ℕ) (ns : List Node) → map_got all ((read >>= next) i ns) ≡ then (scan_list (scan d) (sort ∷ sorts) i ns) last
unfolding scan_list
child_then d sort sorts read words same next all last follows i ns =
    then_same words all (read i ns) (scan d sort i ns) (same i ns) next (λ vs j rest. then (scan_list (scan d) sorts j rest) (λ ws. last (vs ++ ws))) follows
    ∙ joined (scan d sort i ns)
  where
    joined : (m : Got (List ℕ)) →
        then m (λ vs j rest. then (scan_list (scan d) sorts j rest) (λ ws. last (vs ++ ws)))
        ≡ then (then m (λ vs. scan_list (scan d) sorts >>= λ ws. give (vs ++ ws))) last
    joined (refused x p) = refl
    joined (got vs j rest) = sym (then_assoc (scan_list (scan d) sorts j rest) (λ ws. give (vs ++ ws)) last)

-- The last child: nothing follows it.
last_child : {A C : Type 0} (d : ℕ) (sort : Sort) (read : Read A) (words : A → List ℕ) → ((i : ℕ) (ns : List Node) → map_got words (read i ns) ≡ scan d sort i ns) →
    (make : A → C) (all : C → List ℕ) (made : List ℕ → List ℕ) → ((a : A) → all (make a) ≡ made (words a)) →
    (i : ℕ) (ns : List Node) → map_got all ((read >>= λ a. give (make a)) i ns) ≡ then (scan_list (scan d) (sort ∷ []) i ns) (λ ws. give (made ws))
unfolding scan_list
last_child d sort read words same make all made is i ns =
    child_then d sort [] read words same (λ a. give (make a)) all (λ ws. give (made ws))
    (λ a j rest. ap (λ ws. got ws j rest) (is a ∙ ap made (sym (append_nothing (words a))))) i ns

pub one_child : {A B : Type 0} (d : ℕ) (k : Kind) (w p : ℕ) (sort : Sort) → child_sorts k w ≡ sort ∷ [] → (read : Read A) (words : A → List ℕ) →
    ((i : ℕ) (ns : List Node) → map_got words (read i ns) ≡ scan d sort i ns) → (make : A → B) (all : B → List ℕ) →
    ((a : A) → all (make a) ≡ node_words (kind_number k) w p (words a)) →
    (i : ℕ) (ns : List Node) → map_got all ((read >>= λ a. give (make a)) i ns) ≡ below d k w p i ns
one_child d k w p sort c read words same make all made i ns = rw c (last_child d sort read words same make all (node_words (kind_number k) w p) made i ns)

pub two_children : {A B C : Type 0} (d : ℕ) (k : Kind) (w p : ℕ) (first second : Sort) → child_sorts k w ≡ first ∷ second ∷ [] →
    (read : Read A) (words : A → List ℕ) → ((i : ℕ) (ns : List Node) → map_got words (read i ns) ≡ scan d first i ns) →
    (read' : Read B) (words' : B → List ℕ) → ((i : ℕ) (ns : List Node) → map_got words' (read' i ns) ≡ scan d second i ns) →
    (make : A → B → C) (all : C → List ℕ) → ((a : A) (b : B) → all (make a b) ≡ node_words (kind_number k) w p (words a ++ words' b)) →
    (i : ℕ) (ns : List Node) → map_got all ((read >>= λ a. read' >>= λ b. give (make a b)) i ns) ≡ below d k w p i ns
two_children d k w p first second c read words same read' words' same' make all made i ns =
    rw c
    (child_then d first (second ∷ []) read words same (λ a. read' >>= λ b. give (make a b)) all (λ ws. finish k w p ws)
    (λ a. last_child d second read' words' same' (make a) all (λ ws. node_words (kind_number k) w p (words a ++ ws)) (made a)) i ns)

pub three_children : {A B C D : Type 0} (d : ℕ) (k : Kind) (w p : ℕ) (first second third : Sort) → child_sorts k w ≡ first ∷ second ∷ third ∷ [] →
    (read : Read A) (words : A → List ℕ) → ((i : ℕ) (ns : List Node) → map_got words (read i ns) ≡ scan d first i ns) →
    (read' : Read B) (words' : B → List ℕ) → ((i : ℕ) (ns : List Node) → map_got words' (read' i ns) ≡ scan d second i ns) →
    (read'' : Read C) (words'' : C → List ℕ) → ((i : ℕ) (ns : List Node) → map_got words'' (read'' i ns) ≡ scan d third i ns) →
    (make : A → B → C → D) (all : D → List ℕ) → ((a : A) (b : B) (c : C) → all (make a b c) ≡ node_words (kind_number k) w p (words a ++ (words' b ++ words'' c))) →
    (i : ℕ) (ns : List Node) → map_got all ((read >>= λ a. read' >>= λ b. read'' >>= λ c. give (make a b c)) i ns) ≡ below d k w p i ns
three_children d k w p first second third c read words same read' words' same' read'' words'' same'' make all made i ns =
    rw c
    (child_then d first (second ∷ third ∷ []) read words same (λ a. read' >>= λ b. read'' >>= λ e. give (make a b e)) all (λ ws. finish k w p ws)
    (λ a. child_then d second (third ∷ []) read' words' same' (λ b. read'' >>= λ e. give (make a b e)) all (λ ws. finish k w p (words a ++ ws))
    (λ b. last_child d third read'' words'' same'' (make a b) all (λ ws. node_words (kind_number k) w p (words a ++ (words' b ++ ws))) (made a b))) i ns)

pub no_child : {B : Type 0} (d : ℕ) (k : Kind) (w p : ℕ) → child_sorts k w ≡ [] → (b : B) (all : B → List ℕ) → all b ≡ node_words (kind_number k) w p [] →
    (i : ℕ) (ns : List Node) → map_got all (got b i ns) ≡ below d k w p i ns
unfolding scan_list
no_child d k w p c b all made i ns = rw c (ap (λ ws. got ws i ns) made)

-- Several children of one sort.
pub many_same : {A : Type 0} (d : ℕ) (sort : Sort) (read : Read A) (words : A → List ℕ) →
    ((i : ℕ) (ns : List Node) → map_got words (read i ns) ≡ scan d sort i ns) →
    (n i : ℕ) (ns : List Node) → map_got (all_words words) (read_many n read i ns) ≡ scan_list (scan d) (replicate n sort) i ns
unfolding read_many scan_list all_words
many_same d sort read words same zero i ns = refl
many_same d sort read words same (suc n) i ns =
    then_same words (all_words words) (read i ns) (scan d sort i ns) (same i ns)
    (λ a. read_many n read >>= λ rest. give (a ∷ rest))
    (λ ws. scan_list (scan d) (replicate n sort) >>= λ b. give (ws ++ b))
    (λ a j rest. then_same (all_words words) (all_words words) (read_many n read j rest) (scan_list (scan d) (replicate n sort) j rest) (many_same d sort read words same n j rest)
    (λ more. give (a ∷ more)) (λ b. give (words a ++ b)) (λ more j' rest'. refl))

-- As many as were asked for.
pub many_counted : {A : Type 0} (n : ℕ) (one : Read A) (i : ℕ) (ns : List Node) → AllGot (λ all. length all ≡ n) (read_many n one i ns)
unfolding read_many
many_counted zero one i ns = refl
many_counted {A} (suc n) one i ns = first (one i ns) (λ j rest. many_counted n one j rest)
  where
    last : (a : A) (m : Got (List A)) → AllGot (λ all. length all ≡ n) m → AllGot (λ all. length all ≡ suc n) (then m (λ more. give (a ∷ more)))
    last a (refused x p) h = tt
    last a (got more j rest) h = ap suc h

    first : (m : Got A) → ((j : ℕ) (rest : List Node) → AllGot (λ all. length all ≡ n) (read_many n one j rest)) →
        AllGot (λ all. length all ≡ suc n) (then m (λ a. read_many n one >>= λ more. give (a ∷ more)))
    first (refused x p) h = tt
    first (got a j rest) h = last a (read_many n one j rest) (h j rest)

-- Several, and then one more.
pub list_append : (one : Sort → Read (List ℕ)) (us : List Sort) (v : Sort) (i : ℕ) (ns : List Node) →
    scan_list one (us ++ (v ∷ [])) i ns ≡ then (scan_list one us i ns) (λ a. one v >>= λ b. give (a ++ b))
unfolding scan_list
list_append one [] v i ns = last (one v i ns)
  where
    last : (m : Got (List ℕ)) → then m (λ a. give [] >>= λ b. give (a ++ b)) ≡ then m (λ b. give b)
    last (refused x p) = refl
    last (got a j rest) = ap (λ ws. got ws j rest) (append_nothing a)
list_append one (u ∷ us) v i ns = step (one u i ns) (λ j rest. list_append one us v j rest)
  where
    inner : (a : List ℕ) (m : Got (List ℕ)) → then (then m (λ b. one v >>= λ c. give (b ++ c))) (λ b. give (a ++ b)) ≡ then (then m (λ b. give (a ++ b))) (λ b. one v >>= λ c. give (b ++ c))
    inner a (refused x p) = refl
    inner a (got b j rest) = last (one v j rest)
      where
        last : (m : Got (List ℕ)) → then (then m (λ c. give (b ++ c))) (λ c. give (a ++ c)) ≡ then m (λ c. give ((a ++ b) ++ c))
        last (refused x p) = refl
        last (got c j' rest') = ap (λ ws. got ws j' rest') (sym (append_assoc a b c))

    step : (m : Got (List ℕ)) → ((j : ℕ) (rest : List Node) → scan_list one (us ++ (v ∷ [])) j rest ≡ then (scan_list one us j rest) (λ a. one v >>= λ b. give (a ++ b))) →
        then m (λ a. scan_list one (us ++ (v ∷ [])) >>= λ b. give (a ++ b))
        ≡ then (then m (λ a. scan_list one us >>= λ b. give (a ++ b))) (λ a. one v >>= λ b. give (a ++ b))
    step (refused x p) later = refl
    step (got a j rest) later = ap (λ x. then x (λ b. give (a ++ b))) (later j rest) ∙ inner a (scan_list one us j rest)

-- ---- A node with its children.

-- A reader of a sort, from its node on: where the node is read, its operand fits.
abbrev header : {K : Type 0} → (i w : ℕ) → K → Header K
header i w s = record { place = i; kind = s; operand = w }

abbrev judged : {K : Type 0} → (i w : ℕ) (ns : List Node) → Bool → K → Got (Header K)
judged i w ns t s = cond t (got (header i w s) (suc i) ns) (refused Refusals.Operand i)

pub sorted_same : {K B : Type 0} (d : ℕ) (wants : Kind → Option K) (sort : Sort) (kind : K → Kind) → ((k : Kind) → option_map kind (wants k) ≡ accepting sort k) →
    (by : K → (place operand : ℕ) → Read B) (words : B → List ℕ) →
    ((k : K) (w p : ℕ) → T (operand_fits (kind k) w) → (i : ℕ) (ns : List Node) → map_got words (by k p w i ns) ≡ below d (kind k) w p i ns) →
    (i : ℕ) (ns : List Node) → map_got words ((node wants >>= λ h. by h.kind h.place h.operand) i ns) ≡ scan (suc d) sort i ns
unfolding node scan option_map
sorted_same d wants sort kind e by words same i [] = refl
sorted_same {K} {B} d wants sort kind e by words same i (n ∷ ns) = by_kind (kind_of n.kind)
  where
    before : Header K → Read B
    before h = by h.kind h.place h.operand

    after : Header Kind → Read (List ℕ)
    after h = below d h.kind h.operand h.place

    by_operand : (k : Kind) (s : K) (t : Bool) → k ≡ kind s → operand_fits k n.operand ≡ t →
        map_got words (then (judged i n.operand ns t s) before) ≡ then (judged i n.operand ns t k) after
    by_operand k s true c q =
        same s n.operand i (subst (λ x. T (operand_fits x n.operand)) c (passed_test q)) (suc i) ns
        ∙ ap (λ x. below d x n.operand i (suc i) ns) (sym c)
    by_operand k s false c q = refl

    by_sort : (k : Kind) (o : Option K) (t : Bool) → option_map kind o ≡ cond t (some k) none →
        map_got words (then (or_refuse Refusals.Tree i o (λ s. judged i n.operand ns (operand_fits k n.operand) s)) before)
        ≡ then (or_refuse Refusals.Tree i (cond t (some k) none) (λ s. judged i n.operand ns (operand_fits k n.operand) s)) after
    by_sort k none true q = absurd (none-ne-some k q)
    by_sort k none false q = refl
    by_sort k (some s) true q = by_operand k s (operand_fits k n.operand) (sym (some-injective (kind s) k q)) refl
    by_sort k (some s) false q = absurd (some-ne-none (kind s) q)

    by_kind : (o : Option Kind) →
        map_got words (then (or_refuse Refusals.Kind i o (λ k. or_refuse Refusals.Tree i (wants k) (λ s. judged i n.operand ns (operand_fits k n.operand) s))) before)
        ≡ then (or_refuse Refusals.Kind i o (λ k. or_refuse Refusals.Tree i (accepting sort k) (λ s. judged i n.operand ns (operand_fits k n.operand) s))) after
    by_kind none = refl
    by_kind (some k) = by_sort k (wants k) (is_of sort k) (e k)

-- At depth 65: the node's own checks, then 6.
pub deep_same : {K B : Type 0} (wants : Kind → Option K) (sort : Sort) (kind : K → Kind) → ((k : Kind) → option_map kind (wants k) ≡ accepting sort k) →
    (words : B → List ℕ) (i : ℕ) (ns : List Node) → map_got words ((node wants >>= λ h. refuse Refusals.Depth h.place) i ns) ≡ scan zero sort i ns
unfolding scan
deep_same wants sort kind e words i ns =
    then_same (map_header kind) words (node wants i ns) (node (accepting sort) i ns) (node_same wants sort kind e i ns) _ _ (λ h j rest. refl)
