-- How a walk goes on, from where it stands.
use Rattle.std.proofs.Common.{◌≡◌, ◌∙◌, inl, inr, refl, sym, ap, subst, ℕ, zero, suc, ◌+◌, ◌<◌, ◌≤◌, List, [], ◌∷◌, ◌++◌, length, drop, take, Some, None, Ok, Err, codes, append_assoc, arith, length-append}
use Rattle.std.specs.Prelude.{true, false, ◌==◌, map, if◌then◌else◌, slice_get, sum_by}
use Rattle.std.specs.List.{AllByRecursion}
use Rattle.std.proofs.lemmas.Bool.{eq-eqb}
use Rattle.std.proofs.lemmas.List.{length-map}
use Rattle.std.proofs.lemmas.Option.{slice_get_within}
use Rattle.graph_laws.proofs.Inlining.{found}
use Rattle.graph_laws.proofs.Nesting.{invoked_is_call, composites_within}
use Rattle.std.proofs.lemmas.Bool.Decides.{eqb_tells}
use Rattle.spl_tree.specs.declared.unit.Composite.{Composite}
use Rattle.spl_tree.specs.declared.unit.Definition.{Definition}
use Rattle.spl_tree.specs.declared.unit.Invocation.{Invocation}
use Rattle.language_model.specs.Composites.{composites}
use Rattle.language_model.specs.declared.expansion.ExpansionRefusal.{ExpansionRefusal}
use Rattle.language_model.specs.Expansion.{Made, Inlined, inlined, opened_in, invocation_name, expanded, expanded_invocation, expanded_main}
use Rattle.language_model.specs.parts.Expansion.{if_grown, with_expansion, connections_of, is_within}
use Rattle.language_model.proofs.parts.Expansion.{with_operation}
use Rattle.language_model.specs.declared.expansion.Operation.{Operation}
use Rattle.language_model.specs.Declarations.{first_of}
use Rattle.language_model.specs.Invoking.{Body, target_of, undeclared, fits_head}
use Rattle.language_model.specs.Recursion.{IsCall, HasNoRecursion, composite_callers, calls_among}
use Rattle.language_model.specs.Scopes.{At}
use Rattle.composite_expand.specs.declared.walk.Opened.{Opened}
use Rattle.composite_expand.specs.declared.walk.Walk.{Walk}
use Rattle.composite_tables.specs.Inputs.{Shows, AreNested, InputsStand}
use Rattle.composite_expand.specs.steps.Walking.{Frame, frame, closed, resumed, Keeps, IsIdle}
use Rattle.composite_expand.specs.steps.Walks.{IsFrame, IsAround, Tracks, place_of_frame, IsWay, IsIdleSoFar, Waits, AreIdle, AreMarks, StandsThere, IsOn, Front, IsFurther, IsNew}
use Rattle.composite_expand.proofs.Resuming.{closes, goes_on, refuses, opens, idle_body, idle_more, keeps_grown, keeps_next}
use Rattle.program_tables.proofs.Snoc.{take_snoc}
use Rattle.spl_value.proofs.Lists.{append_last, next_rest}

-- with no body on the way all is done
frames_done : (unit : List Definition) (names : List ℕ) (fs : List Frame) → Tracks unit names [] fs → fs ≡ []
frames_done unit names [] is = refl
frames_done unit names (f ∷ fs) is = absurd is

pub done : (unit : List Definition) (main : At Composite) (w : Walk) → (on : IsOn unit main w []) → Ok on.made ≡ expanded_main unit main
done unit main w on = subst (λ fs. resumed on.depth unit fs on.made ≡ expanded_main unit main) (frames_done unit w.names.items on.frames on.tracks) on.goal

front_of : (unit : List Definition) (main : At Composite) (w : Walk) (o : Opened) (os : List Opened) (fs : List Frame) (made : Made) (depth : ℕ)
    → resumed depth unit fs made ≡ expanded_main unit main → depth + length fs ≡ length (composites unit) → Tracks unit w.names.items (o ∷ os) fs → IsWay unit fs
    → Keeps fs made → AreIdle unit fs made → AllByRecursion (StandsThere made.expansions) fs → AreMarks unit w.idle → w.ops ≡ made.ops → Shows unit w.bodies made.expansions
    → AreNested made.expansions → InputsStand made.expansions w.inputs → w.connections ≡ sum_by connections_of made.ops → is_within made.ops ≡ true → Front unit main w o os
front_of unit main w o os [] made depth goal room tracks path keeps waits there marks ops bodies nested inputs connections within = absurd tracks
front_of unit main w o os (f ∷ fs) made depth goal room tracks path keeps waits there marks ops bodies nested inputs connections within = record {
  f = f;
  fs = fs;
  made = made;
  depth = depth;
  goal = goal;
  room = room;
  of = tracks.0;
  around = tracks.1;
  outer = tracks.2;
  path = path;
  keeps = keeps;
  idle = waits.0;
  waits = waits.1;
  there = there.0;
  others = there.1;
  marks = marks;
  ops = ops;
  bodies = bodies;
  nested = nested;
  inputs = inputs;
  connections = connections;
  within = within;
}

pub front : (unit : List Definition) (main : At Composite) (w : Walk) (o : Opened) (os : List Opened) → IsOn unit main w (o ∷ os) → Front unit main w o os
front unit main w o os on =
    front_of unit main w o os on.frames on.made on.depth on.goal on.room on.tracks on.path on.keeps on.waits on.there on.marks on.ops on.bodies on.nested on.inputs
    on.connections on.within

-- ---- a refusal

pub refused : (unit : List Definition) (main : At Composite) (w : Walk) (o : Opened) (os : List Opened) (at : Front unit main w o os) (i : Invocation) (r : ExpansionRefusal)
    → slice_get at.f.opened.body.composite.what.graph at.f.next ≡ Some i
    → expanded_invocation (expanded at.depth unit) unit at.f.opened at.f.next i at.made ≡ Err r
    → expanded_main unit main ≡ Err r
refused unit main w o os at i r here is =
    sym at.goal ∙ refuses at.depth unit at.f at.fs at.made r i (next_rest at.f.opened.body.composite.what.graph at.f.next i here) is

-- ---- the next invocation

abbrev pub frame_on : Frame → Frame
frame_on f = frame f.opened (suc f.next) f.before

frame_further : (unit : List Definition) (names : List ℕ) (o p : Opened) (f : Frame) → IsFurther o p → IsFrame unit names o f → IsFrame unit names p (frame_on f)
frame_further unit names o p f on is = record {
  place = on.composite ∙ is.place;
  composite = ap (slice_get (composites unit)) on.composite ∙ is.composite;
  number = on.number ∙ is.number;
  next = on.next ∙ ap suc is.next;
  prefix = ap (λ n. take n names) on.prefix ∙ is.prefix;
  within = subst (λ n. n ≤ length names) (sym on.prefix) is.within;
  ops = on.ops ∙ is.ops;
  bodies = on.number ∙ is.bodies;
}

around_further : (o p : Opened) (os : List Opened) → IsFurther o p → AllByRecursion (IsAround o) os → AllByRecursion (IsAround p) os
around_further o p [] on all = tt
around_further o p (q ∷ os) on all =
    (record { prefix = subst (λ n. q.prefix ≤ n) (sym on.prefix) all.0.prefix; number = subst (λ n. q.number < n) (sym on.number) all.0.number }, around_further o p os on all.1)

-- what a walk has to hold for what it has made
pub record Holds (unit : List Definition) (w : Walk) (made : Made) : Type 0 where
  pub marks : AreMarks unit w.idle
  pub ops : w.ops ≡ made.ops
  pub bodies : Shows unit w.bodies made.expansions
  pub nested : AreNested made.expansions
  pub inputs : InputsStand made.expansions w.inputs
  pub connections : w.connections ≡ sum_by connections_of made.ops
  pub within : is_within made.ops ≡ true

waits_on : (unit : List Definition) (f : Frame) (fs : List Frame) → Waits unit f fs → Waits unit (frame_on f) fs
waits_on unit f [] is = is
waits_on unit f (g ∷ gs) is = is

pub went_on : (unit : List Definition) (main : At Composite) (w v : Walk) (o p : Opened) (os : List Opened) (at : Front unit main w o os) (i : Invocation) (made : Made)
    → slice_get at.f.opened.body.composite.what.graph at.f.next ≡ Some i
    → expanded_invocation (expanded at.depth unit) unit at.f.opened at.f.next i at.made ≡ Ok made
    → IsFurther o p → v.names.items ≡ w.names.items → Keeps (at.f ∷ at.fs) made → IsIdleSoFar unit (frame_on at.f) made → made.expansions ≡ at.made.expansions
    → Holds unit v made → IsOn unit main v (p ∷ os)
went_on unit main w v o p os at i made here is on names keeps idle same holds = record {
  frames = frame_on at.f ∷ at.fs;
  made = made;
  depth = at.depth;
  goal = sym (goes_on at.depth unit at.f at.fs at.made made i (next_rest at.f.opened.body.composite.what.graph at.f.next i here) is) ∙ at.goal;
  room = at.room;
  tracks = subst (λ ns. Tracks unit ns (p ∷ os) (frame_on at.f ∷ at.fs)) (sym names)
      (frame_further unit w.names.items o p at.f on at.of, around_further o p os on at.around, at.outer);
  path = at.path;
  keeps = keeps_next at.f at.fs made (suc at.f.next) keeps;
  waits = (idle, waits_on unit at.f at.fs at.waits);
  there = subst (λ xs. AllByRecursion (StandsThere xs) (frame_on at.f ∷ at.fs)) (sym same) (at.there, at.others);
  marks = holds.marks;
  ops = holds.ops;
  bodies = holds.bodies;
  nested = holds.nested;
  inputs = holds.inputs;
  connections = holds.connections;
  within = holds.within;
}

-- ---- a composite that is known to make nothing

idle_next : (unit : List Definition) (f : Frame) (made : Made) (i : Invocation) (d : At Composite) → slice_get f.opened.body.composite.what.graph f.next ≡ Some i
    → first_of (undeclared unit f.opened.body.composite.what i) ≡ None → target_of unit i.operator.what ≡ Body d → fits_head d.what i ≡ true
    → IsIdle unit d.what d.what.graph → IsIdleSoFar unit f made → IsIdleSoFar unit (frame_on f) made
idle_next unit f made i d here known target fits inner so_far same =
    subst (IsIdle unit f.opened.body.composite.what) (sym (take_snoc f.next f.opened.body.composite.what.graph i here))
    (idle_more unit f.opened.body.composite.what (take f.next f.opened.body.composite.what.graph) i d known target fits inner (so_far same))

pub passed_over : (unit : List Definition) (main : At Composite) (w v : Walk) (o p : Opened) (os : List Opened) (at : Front unit main w o os) (i : Invocation) (d : At Composite)
    → slice_get at.f.opened.body.composite.what.graph at.f.next ≡ Some i
    → first_of (undeclared unit at.f.opened.body.composite.what i) ≡ None → target_of unit i.operator.what ≡ Body d → fits_head d.what i ≡ true
    → IsIdle unit d.what d.what.graph → IsFurther o p → v.names.items ≡ w.names.items → Holds unit v at.made → IsOn unit main v (p ∷ os)
passed_over unit main w v o p os at i d here known target fits inner on names holds =
    went_on unit main w v o p os at i at.made here (idle_body unit at.depth at.f.opened at.f.next i at.made d known target fits inner) on names at.keeps
    (idle_next unit at.f at.made i d here known target fits inner at.idle) refl holds

-- ---- an operator

keeps_before : (f : Frame) (fs : List Frame) (m : Made) → Keeps (f ∷ fs) m → length f.before.ops ≤ length m.ops
keeps_before f _ m (Keeps.main _ _ within) = within
keeps_before f _ m (Keeps.within _ g fs _ within same outer) = within

pub added : (unit : List Definition) (main : At Composite) (w v : Walk) (o p : Opened) (os : List Opened) (at : Front unit main w o os) (i : Invocation) (op : Operation)
    → slice_get at.f.opened.body.composite.what.graph at.f.next ≡ Some i
    → expanded_invocation (expanded at.depth unit) unit at.f.opened at.f.next i at.made ≡ Ok (with_operation op at.made)
    → IsFurther o p → v.names.items ≡ w.names.items → Holds unit v (with_operation op at.made) → IsOn unit main v (p ∷ os)
added unit main w v o p os at i op here is on names holds =
    let longer : length (at.made.ops ++ op ∷ []) ≡ length at.made.ops + 1 = length-append at.made.ops (op ∷ []) in
    let before : length at.f.before.ops ≤ length at.made.ops = keeps_before at.f at.fs at.made at.keeps in
    went_on unit main w v o p os at i (with_operation op at.made) here is on names
    (keeps_grown (at.f ∷ at.fs) at.made (with_operation op at.made) (omega (arith, longer)) at.keeps)
    (λ same. absurd (omega (arith, same, longer, before))) refl holds

-- ---- the end of a body

nothing_left : {A : Type 0} (xs : List A) (n : ℕ) → slice_get xs n ≡ None → drop n xs ≡ []
nothing_left [] zero is = refl
nothing_left [] (suc n) is = refl
nothing_left (x ∷ xs) zero is = absurd cc
nothing_left (x ∷ xs) (suc n) is = nothing_left xs n is

all_taken : {A : Type 0} (xs : List A) (n : ℕ) → slice_get xs n ≡ None → take n xs ≡ xs
all_taken [] zero is = refl
all_taken [] (suc n) is = refl
all_taken (x ∷ xs) zero is = absurd cc
all_taken (x ∷ xs) (suc n) is = ap (λ ys. x ∷ ys) (all_taken xs n is)

-- the main body ends
pub ended : (unit : List Definition) (main : At Composite) (w : Walk) (o : Opened) (at : Front unit main w o [])
    → slice_get at.f.opened.body.composite.what.graph at.f.next ≡ None → Ok at.made ≡ expanded_main unit main
ended unit main w o at over =
    let goal : resumed (suc at.depth) unit at.fs (closed at.f at.fs at.made) ≡ expanded_main unit main =
    sym (closes at.depth unit at.f at.fs at.made (nothing_left at.f.opened.body.composite.what.graph at.f.next over)) ∙ at.goal in
    subst (λ fs. resumed (suc at.depth) unit fs (closed at.f fs at.made) ≡ expanded_main unit main) (frames_done unit w.names.items at.fs at.outer) goal

-- a body within others ends, after which the one around it goes on
pub record Back (unit : List Definition) (main : At Composite) (w : Walk) (o p : Opened) (os : List Opened) (made : Made) : Type 0 where
  pub f : Frame
  pub g : Frame
  pub gs : List Frame
  pub depth : ℕ
  pub goal : resumed depth unit (g ∷ gs) (if_grown f.before made) ≡ expanded_main unit main
  pub room : depth + suc (length gs) ≡ length (composites unit)
  pub of : IsFrame unit w.names.items o f
  pub around : AllByRecursion (IsAround o) (p ∷ os)
  pub outer : Tracks unit w.names.items (p ∷ os) (g ∷ gs)
  pub path : IsWay unit (g ∷ gs)
  pub least : length f.before.ops ≤ length made.ops
  pub same : length f.before.ops ≡ length made.ops → made ≡ with_expansion f.opened.body f.before
  pub keeps : Keeps (g ∷ gs) f.before
  pub idle : IsIdle unit f.opened.body.composite.what (take f.next f.opened.body.composite.what.graph) → IsIdleSoFar unit g f.before
  pub idle_so_far : IsIdleSoFar unit f made
  pub waits : Waits unit g gs
  pub others : AllByRecursion (StandsThere made.expansions) (g ∷ gs)
  pub whole : take f.next f.opened.body.composite.what.graph ≡ f.opened.body.composite.what.graph

keeps_inner : (f g : Frame) (gs : List Frame) (made : Made) → Keeps (f ∷ g ∷ gs) made
    → (length f.before.ops ≤ length made.ops) × (length f.before.ops ≡ length made.ops → made ≡ with_expansion f.opened.body f.before) × Keeps (g ∷ gs) f.before
keeps_inner f g gs made (Keeps.within _ _ _ _ within same outer) = (within, same, outer)

back_of : (unit : List Definition) (main : At Composite) (w : Walk) (o p : Opened) (os : List Opened) (f : Frame) (fs : List Frame) (made : Made) (depth : ℕ)
    → resumed (suc depth) unit fs (closed f fs made) ≡ expanded_main unit main → depth + suc (length fs) ≡ length (composites unit) → IsFrame unit w.names.items o f
    → AllByRecursion (IsAround o) (p ∷ os) → Tracks unit w.names.items (p ∷ os) fs → IsWay unit (f ∷ fs) → Keeps (f ∷ fs) made → IsIdleSoFar unit f made → Waits unit f fs
    → AllByRecursion (StandsThere made.expansions) fs → take f.next f.opened.body.composite.what.graph ≡ f.opened.body.composite.what.graph
    → Back unit main w o p os made
back_of unit main w o p os f [] made depth goal room of around outer path keeps idle waits others whole = absurd outer
back_of unit main w o p os f (g ∷ gs) made depth goal room of around outer path keeps idle waits others whole =
    let inner = keeps_inner f g gs made keeps in
    record {
      f = f;
      g = g;
      gs = gs;
      depth = suc depth;
      goal = goal;
      room = omega (arith, room);
      of = of;
      around = around;
      outer = outer;
      path = path.1;
      least = inner.0;
      same = inner.1;
      keeps = inner.2;
      idle = λ is. waits.0 (subst (IsIdle unit f.opened.body.composite.what) whole is);
      idle_so_far = idle;
      waits = waits.1;
      others = others;
      whole = whole;
    }

pub back : (unit : List Definition) (main : At Composite) (w : Walk) (o p : Opened) (os : List Opened) (at : Front unit main w o (p ∷ os))
    → slice_get at.f.opened.body.composite.what.graph at.f.next ≡ None → Back unit main w o p os at.made
back unit main w o p os at over =
    back_of unit main w o p os at.f at.fs at.made at.depth
    (sym (closes at.depth unit at.f at.fs at.made (nothing_left at.f.opened.body.composite.what.graph at.f.next over)) ∙ at.goal)
    at.room at.of at.around at.outer at.path at.keeps at.idle at.waits at.others (all_taken at.f.opened.body.composite.what.graph at.f.next over)

-- it made operators, and stays
pub closed_grown : (unit : List Definition) (main : At Composite) (w v : Walk) (o p : Opened) (os : List Opened) (made : Made) (at : Back unit main w o p os made)
    → (length at.f.before.ops ≡ length made.ops → ⊥) → v.names.items ≡ w.names.items → Holds unit v made → IsOn unit main v (p ∷ os)
closed_grown unit main w v o p os made at more names holds =
    let least : length at.f.before.ops ≤ length made.ops = at.least in
    let longer : length at.f.before.ops < length made.ops = omega (arith, least, more) in
    let stays : if_grown at.f.before made ≡ made = ap (λ b. if b then at.f.before else made) (eqb_less (length at.f.before.ops) (length made.ops) longer) in
    record {
      frames = at.g ∷ at.gs;
      made = made;
      depth = at.depth;
      goal = ap (λ m. resumed at.depth unit (at.g ∷ at.gs) m) (sym stays) ∙ at.goal;
      room = at.room;
      tracks = subst (λ ns. Tracks unit ns (p ∷ os) (at.g ∷ at.gs)) (sym names) at.outer;
      path = at.path;
      keeps = keeps_grown (at.g ∷ at.gs) at.f.before made longer at.keeps;
      waits = ((λ same. absurd (omega (arith, same, longer, keeps_before at.g at.gs at.f.before at.keeps))), at.waits);
      there = at.others;
      marks = holds.marks;
      ops = holds.ops;
      bodies = holds.bodies;
      nested = holds.nested;
      inputs = holds.inputs;
      connections = holds.connections;
      within = holds.within;
    }
  where
    eqb_less : (a b : ℕ) → a < b → (a == b) ≡ false
    eqb_less a b less = elim (eqb_tells a b) [ inl both ↦ absurd (omega (arith, less, both.1)) | inr both ↦ both.0 ]

-- it made no operator, and doesn't stay
in_front : {A : Type 0} (xs : List A) (y x : A) (k : ℕ) → k < length xs → slice_get (xs ++ y ∷ []) k ≡ Some x → slice_get xs k ≡ Some x
in_front [] y x k less is = absurd (omega (arith, less))
in_front (z ∷ xs) y x zero less is = is
in_front (z ∷ xs) y x (suc k) less is = in_front xs y x k (omega (arith, less)) is

stand_without : (unit : List Definition) (names : List ℕ) (o : Opened) (xs : List Inlined) (x : Inlined) (os : List Opened) (fs : List Frame) → o.number ≡ length xs
    → AllByRecursion (IsAround o) os → Tracks unit names os fs → AllByRecursion (StandsThere (xs ++ x ∷ [])) fs → AllByRecursion (StandsThere xs) fs
stand_without unit names o xs x [] [] is around tracks all = tt
stand_without unit names o xs x [] (f ∷ fs) is around tracks all = absurd tracks
stand_without unit names o xs x (q ∷ os) [] is around tracks all = absurd tracks
stand_without unit names o xs x (q ∷ os) (f ∷ fs) is around tracks all =
    let less : q.number < o.number = around.0.number in
    let number : q.number ≡ f.opened.number = tracks.0.number in
    (in_front xs x f.opened.body f.opened.number (omega (arith, less, number, is)) all.0, stand_without unit names o xs x os fs is around.1 tracks.2 all.1)

pub closed_idle : (unit : List Definition) (main : At Composite) (w v : Walk) (o p : Opened) (os : List Opened) (made : Made) (at : Back unit main w o p os made)
    → length at.f.before.ops ≡ length made.ops → v.names.items ≡ w.names.items → Holds unit v at.f.before → IsOn unit main v (p ∷ os)
closed_idle unit main w v o p os made at same names holds =
    let goes : if_grown at.f.before made ≡ at.f.before = ap (λ b. if b then at.f.before else made) (eq-eqb (length at.f.before.ops) (length made.ops) same) in
    let was : made ≡ with_expansion at.f.opened.body at.f.before = at.same same in
    record {
      frames = at.g ∷ at.gs;
      made = at.f.before;
      depth = at.depth;
      goal = ap (λ m. resumed at.depth unit (at.g ∷ at.gs) m) (sym goes) ∙ at.goal;
      room = at.room;
      tracks = subst (λ ns. Tracks unit ns (p ∷ os) (at.g ∷ at.gs)) (sym names) at.outer;
      path = at.path;
      keeps = at.keeps;
      waits = (at.idle (at.idle_so_far same), at.waits);
      there = stand_without unit w.names.items o at.f.before.expansions at.f.opened.body (p ∷ os) (at.g ∷ at.gs) at.of.bodies at.around at.outer
          (subst (λ m. AllByRecursion (StandsThere m.expansions) (at.g ∷ at.gs)) was at.others);
      marks = holds.marks;
      ops = holds.ops;
      bodies = holds.bodies;
      nested = holds.nested;
      inputs = holds.inputs;
      connections = holds.connections;
      within = holds.within;
    }

-- ---- a composite is opened

around_new : (o q : Opened) (os : List Opened) → o.prefix ≤ q.prefix → o.number ≤ q.number → AllByRecursion (IsAround o) os → AllByRecursion (IsAround q) os
around_new o q [] prefix number all = tt
around_new o q (r ∷ os) prefix number all =
    let longer : r.prefix ≤ o.prefix = all.0.prefix in
    let later : r.number < o.number = all.0.number in
    (record { prefix = omega (arith, longer, prefix); number = omega (arith, later, number) }, around_new o q os prefix number all.1)

-- the first names stay where others are put after them
take_front : (xs ys : List ℕ) (n m : ℕ) → n ≤ m → m ≤ length xs → take n (take m xs ++ ys) ≡ take n xs
take_front xs ys zero m less within = refl
take_front [] ys (suc n) m less within = absurd (omega (arith, less, within))
take_front (x ∷ xs) ys (suc n) zero less within = absurd (omega (arith, less))
take_front (x ∷ xs) ys (suc n) (suc m) less within = ap (λ zs. x ∷ zs) (take_front xs ys n m (omega (arith, less)) (omega (arith, within)))

take_whole : (xs : List ℕ) → take (length xs) xs ≡ xs
take_whole [] = refl
take_whole (x ∷ xs) = ap (λ ys. x ∷ ys) (take_whole xs)

length_front : (xs ys : List ℕ) (m : ℕ) → m ≤ length xs → m ≤ length (take m xs ++ ys)
length_front xs ys zero within = omega arith
length_front [] ys (suc m) within = absurd (omega (arith, within))
length_front (x ∷ xs) ys (suc m) within = let h = length_front xs ys m (omega (arith, within)) in omega (arith, h)

frame_renamed : (unit : List Definition) (names more : List ℕ) (m : ℕ) (o : Opened) (f : Frame) → o.prefix ≤ m → m ≤ length names → IsFrame unit names o f
    → IsFrame unit (take m names ++ more) o f
frame_renamed unit names more m o f less within is = record {
  place = is.place;
  composite = is.composite;
  number = is.number;
  next = is.next;
  prefix = take_front names more o.prefix m less within ∙ is.prefix;
  within = let h : m ≤ length (take m names ++ more) = length_front names more m within in omega (arith, h, less);
  ops = is.ops;
  bodies = is.bodies;
}

tracks_renamed : (unit : List Definition) (names more : List ℕ) (o : Opened) (os : List Opened) (fs : List Frame) → o.prefix ≤ length names → AllByRecursion (IsAround o) os
    → Tracks unit names os fs → Tracks unit (take o.prefix names ++ more) os fs
tracks_renamed unit names more o [] [] within around is = tt
tracks_renamed unit names more o [] (f ∷ fs) within around is = absurd is
tracks_renamed unit names more o (q ∷ os) [] within around is = absurd is
tracks_renamed unit names more o (q ∷ os) (f ∷ fs) within around is =
    (frame_renamed unit names more o.prefix q f around.0.prefix within is.0, is.1, tracks_renamed unit names more o os fs within around.1 is.2)

stands_more : (xs : List Inlined) (x : Inlined) (fs : List Frame) → AllByRecursion (StandsThere xs) fs → AllByRecursion (StandsThere (xs ++ x ∷ [])) fs
stands_more xs x [] all = tt
stands_more xs x (f ∷ fs) all = (more xs f.opened.number all.0, stands_more xs x fs all.1) where
  more : (xs : List Inlined) (k : ℕ) → slice_get xs k ≡ Some f.opened.body → slice_get (xs ++ x ∷ []) k ≡ Some f.opened.body
  more [] zero is = absurd cc
  more [] (suc k) is = absurd cc
  more (y ∷ ys) zero is = is
  more (y ∷ ys) (suc k) is = more ys k is

new_frame : (unit : List Definition) (w : Walk) (o q : Opened) (f : Frame) (i : Invocation) (c : At Composite) (made : Made) (names : List ℕ) → IsFrame unit w.names.items o f
    → IsNew q made c names → slice_get (composites unit) c.place ≡ Some c.what → names ≡ take o.prefix w.names.items ++ invocation_name i ++ codes "."
    → IsFrame unit names q (frame (opened_in f.opened f.next i c made) 0 made)
new_frame unit w o q f i c made names of is there renamed = record {
  place = is.composite;
  composite = ap (slice_get (composites unit)) is.composite ∙ there;
  number = is.number;
  next = is.next;
  prefix = ap (λ n. take n names) is.prefix ∙ take_whole names ∙ renamed ∙ ap (λ p. p ++ invocation_name i ++ codes ".") of.prefix;
  within = let same : q.prefix ≡ length names = is.prefix in omega (arith, same);
  ops = is.ops;
  bodies = is.number;
}

pub opened : (unit : List Definition) (main : At Composite) (w v : Walk) (o p q : Opened) (os : List Opened) (at : Front unit main w o os) (i : Invocation) (c : At Composite)
    → slice_get at.f.opened.body.composite.what.graph at.f.next ≡ Some i
    → first_of (undeclared unit at.f.opened.body.composite.what i) ≡ None → target_of unit i.operator.what ≡ Body c → fits_head c.what i ≡ true
    → slice_get (composites unit) c.place ≡ Some c.what → IsCall (calls_among (composite_callers unit)) at.f.opened.body.composite.place c.place
    → suc (suc (length at.fs)) ≤ length (composites unit)
    → IsFurther o p → IsNew q at.made c v.names.items → v.names.items ≡ take o.prefix w.names.items ++ invocation_name i ++ codes "."
    → Holds unit v (with_expansion (inlined at.f.opened at.f.next c) at.made) → IsOn unit main v (q ∷ p ∷ os)
opened unit main w v o p q os at i c here known target fits there call deep on new renamed holds =
    of_depth at.depth refl
  where
    names : List ℕ
    names = take o.prefix w.names.items ++ (invocation_name i ++ codes ".")

    named : v.names.items ≡ names
    named = renamed ∙ append_assoc (take o.prefix w.names.items) (invocation_name i) (codes ".")

    x : Inlined
    x = inlined at.f.opened at.f.next c

    g : Frame
    g = frame (opened_in at.f.opened at.f.next i c at.made) 0 at.made

    of_depth : (depth : ℕ) → at.depth ≡ depth → IsOn unit main v (q ∷ p ∷ os)
    of_depth zero is = let room = at.room in absurd (omega (arith, room, is, deep))
    of_depth (suc depth) is =
        let later : at.f.opened.number < length at.made.expansions = slice_get_within at.made.expansions at.f.opened.number at.f.opened.body at.there in
        let of_number : o.number ≡ at.f.opened.number = at.of.number in
        let p_number : p.number ≡ o.number = on.number in
        let q_number : q.number ≡ length at.made.expansions = new.number in
        let p_prefix : p.prefix ≡ o.prefix = on.prefix in
        let q_prefix : q.prefix ≡ length v.names.items = new.prefix in
        let fits_in : o.prefix ≤ length names = length_front w.names.items (invocation_name i ++ codes ".") o.prefix at.of.within in
        let same_length : length v.names.items ≡ length names = ap length named in
        let room = at.room in
        record {
          frames = g ∷ frame_on at.f ∷ at.fs;
          made = with_expansion x at.made;
          depth = depth;
          goal = sym (opens depth unit at.f at.fs at.made i c (next_rest at.f.opened.body.composite.what.graph at.f.next i here) known target fits)
              ∙ subst (λ n. resumed n unit (at.f ∷ at.fs) at.made ≡ expanded_main unit main) is at.goal;
          room = omega (arith, room, is);
          tracks = (
            new_frame unit w o q at.f i c at.made v.names.items at.of new there renamed,
            (
              record { prefix = omega (arith, p_prefix, q_prefix, fits_in, same_length); number = omega (arith, later, of_number, p_number, q_number) },
              around_new o q os (omega (arith, q_prefix, fits_in, same_length)) (omega (arith, later, of_number, q_number)) at.around,
            ),
            subst (λ ns. Tracks unit ns (p ∷ os) (frame_on at.f ∷ at.fs)) (sym named) (
              frame_further unit names o p at.f on (frame_renamed unit w.names.items (invocation_name i ++ codes ".") o.prefix o at.f (omega arith) at.of.within at.of),
              around_further o p os on at.around,
              tracks_renamed unit w.names.items (invocation_name i ++ codes ".") o os at.fs at.of.within at.around at.outer,
            ),
          );
          path = (call, at.path);
          keeps = Keeps.within g (frame_on at.f) at.fs (with_expansion x at.made) (omega arith) (λ _. refl) (keeps_next at.f at.fs at.made (suc at.f.next) at.keeps);
          waits = ((λ _. IsIdle.nothing c.what), ((λ inner. idle_next unit at.f at.made i c here known target fits inner at.idle), waits_on unit at.f at.fs at.waits));
          there = (append_last at.made.expansions x, ((stands_more at.made.expansions x (at.f ∷ []) (at.there, tt)).0, stands_more at.made.expansions x at.fs at.others));
          marks = holds.marks;
          ops = holds.ops;
          bodies = holds.bodies;
          nested = holds.nested;
          inputs = holds.inputs;
          connections = holds.connections;
          within = holds.within;
        }

-- the body may be opened
pub is_deep : (unit : List Definition) (main : At Composite) (w : Walk) (o : Opened) (os : List Opened) (at : Front unit main w o os) (i : Invocation) (c : At Composite)
    → HasNoRecursion (composite_callers unit) → slice_get at.f.opened.body.composite.what.graph at.f.next ≡ Some i → target_of unit i.operator.what ≡ Body c
    → suc (suc (length at.fs)) ≤ length (composites unit)
is_deep unit main w o os at i c none here target =
    let there : slice_get (composites unit) at.f.opened.body.composite.place ≡ Some at.f.opened.body.composite.what =
    ap (slice_get (composites unit)) (sym at.of.place) ∙ at.of.composite in
    let call = invoked_is_call unit at.f.opened.body.composite.place at.f.opened.body.composite.what at.f.next i c there here target in
    let place = slice_get_within (composites unit) c.place c.what (found unit i.operator.what c target) in
    let h = composites_within unit c.place (at.f.opened.body.composite.place ∷ map place_of_frame at.fs) none place (call, at.path) in
    let same : length (map place_of_frame at.fs) ≡ length at.fs = length-map at.fs place_of_frame in
    omega (arith, h, same)
