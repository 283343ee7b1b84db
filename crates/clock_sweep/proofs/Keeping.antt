-- What the steps of a choice leave of the view.
use Rattle.std.proofs.Common.{◌≡◌, ◌≢◌, ℕ, Option, IfNone, Result, Ok, Err, IfOk, ◌<◌, ◌≤◌, List, [], ◌∷◌, append-nil, length, Bool, true, false, Some, None, sym, refl, ap, ◌∙◌, subst, arith, length-append}
use Rattle.std.specs.List.{All}
use Rattle.std.proofs.lemmas.List.Elements.{All-nil, All-push}
use mathlib.Core.Logic.{dite}
use native.Mathlib.Decide.{ℕ_discrete}
use Rattle.atomic_table.specs.declared.shared.Seat.{Seat}
use Rattle.state_word.specs.Fields.{fields, locked_fields}
use Rattle.pin_core.specs.declared.view.View.{View}
use Rattle.pin_core.specs.declared.view.Link.{Link}
use Rattle.pin_core.specs.declared.view.Role.{Role}
use Rattle.pin_core.specs.declared.view.Role.TheVariants.{Absent, HandedOut, Victim}
use Rattle.pin_core.specs.State.{link}
use Rattle.pin_core.proofs.Schedules.{own_pins}
use Rattle.state_word.specs.declared.word.StateWord.{StateWord}
use Rattle.pin_core.specs.declared.view.LoadedWord.TheVariants as seen
use Rattle.pin_core.specs.Kinds as pin
use Rattle.pin_core.specs.Kinds.{load_of}
use Rattle.pin_core.specs.Steps.{HoldsNoHeader}
use Rattle.history_core.specs.State.{State}
use Rattle.table_rule.specs.declared.value.Value.{Value}
use Rattle.frame_table.specs.declared.table.FrameTable.{FrameTable}
use Rattle.frame_table.specs.Kinds.{pins, view_after}
use Rattle.frame_table.specs.WordSteps.{DidWord, add_hand, load_hand}
use Rattle.frame_table.specs.Seats.{CanStep, Grows, HoldsHeader, IsSeat, Looked, SameSeat, frames_of, locked_link, unlocked_link}
use Rattle.frame_table.specs.FrameSteps.{Did, Looks, still, again, looking}
use Rattle.frame_table.proofs.Residents.{residents_same}
use Rattle.frame_table.proofs.Told.{Named, named_of, grows, grows_none, grows_on, touches, link_is, looked, looked_on, looked_same, locked_after, looks_touch, looks_link, looked_by, quiet, quiet_link}
use Rattle.frame_table.proofs.Rising.{grows_loads}
use Rattle.clock_sweep.specs.FreeFrames.{ListHad, QueueState}
use Rattle.clock_sweep.specs.Keeping.{SameAside, aside_of, KeepsFrames, GetsHeader, SamePins}
use Rattle.clock_sweep.specs.Choosing as choice
use Rattle.clock_sweep.specs.Choosing.{TakesHeader, LeavesFrame, Skips, LeavesRing, LeavesFree, Counts, NextIs, Passes, Sweeps, Comes, Chooses, FindsNone, Takes}
use Rattle.clock_sweep.specs.declared.held.LockedFrame.{LockedFrame}

-- what steps leave apart from frames
pub aside_none : (v : View) → SameAside v v
aside_none v = refl

pub aside_on : (v u w : View) → SameAside v u → SameAside u w → SameAside v w
aside_on v u w a b = b ∙ a

-- a step of a kind that names no pair, and takes no tag away
module _ (k : pin.Kind) (none : (s : State) (f : ℕ) (v : View) → named_of (view_after (pins k) s f v) ≡ named_of v) (f found : ℕ) (v w : View) (d : Did (pins k) f v w found) where
  pub aside : SameAside v w
  aside = ap aside_of d.after ∙ ap (λ (n : Named). record (aside_of v) { partitions = n.partitions; cleared = n.cleared }) (none d.state f v)

  pub others : (g : ℕ) → g ≢ f → link w g ≡ link v g
  others = (touches (pins k) none f found v w d).others

-- a view that keeps all, one step after the other
pub keeps_none : (v : View) → KeepsFrames v v
keeps_none v = record { aside = aside_none v; grows = grows_none v; links = λ g. looked_same (link v g) (link v g) refl }

pub keeps_on : (v u w : View) → KeepsFrames v u → KeepsFrames u w → KeepsFrames v w
keeps_on v u w a b = record { aside = aside_on v u w a.aside b.aside; grows = grows_on v u w a.grows b.grows; links = λ g. looked_on (link v g) (link u g) (link w g) (a.links g) (b.links g) }

pub keeps_same : (v w : View) → w ≡ v → KeepsFrames v w
keeps_same v w e = subst (KeepsFrames v) (sym e) (keeps_none v)

pub headless_on : (v w : View) → KeepsFrames v w → HoldsNoHeader v → HoldsNoHeader w
headless_on v w a none g = (a.links g).header ∙ none g

pub same_pins : (v w : View) → KeepsFrames v w → SamePins v w
same_pins v w a g = (a.links g).role

-- loads
pub keeps_looking : (f found : ℕ) (v w : View) → Did looking f v w found → KeepsFrames v w
keeps_looking f found v w d = record {
  aside = aside pin.load_state (λ s g x. refl) f found v w d;
  grows = grows looking f found v w d;
  links = λ g. dite (ℕ_discrete g f)
      (λ e. subst (λ (x : ℕ). Looked (link v x) (link w x)) (sym e) (looked f found v w d))
      (λ n. looked_same (link v g) (link w g) (others pin.load_state (λ s h x. refl) f found v w d g n));
}

pub keeps_looks : (f : ℕ) (v w : View) → Looks f v w → KeepsFrames v w
keeps_looks f v w still = keeps_none v
keeps_looks f v w (again {u = u} found before d) = keeps_on v u w (keeps_looks f v u before) (keeps_looking f found u w d)

-- the hand is loaded
pub hand_grows : (found : ℕ) (v w : View) → DidWord load_hand v w found → Grows v w
hand_grows found v w d = grows_loads (load_of v (seen.Hand found) ∷ []) v w (ap (λ (x : View). x.loads) d.after) (ap (λ (x : View). x.changes) d.after) (ap (λ (x : View). x.residents) d.after) (let e = ap (λ (x : View). x.steps) d.after in omega arith)

-- it moves on
pub keeps_hand : (found : ℕ) (v w : View) → DidWord add_hand v w found → KeepsFrames v w
keeps_hand found v w d = subst (KeepsFrames v) (sym d.after) record {
  aside = refl;
  grows = record { loads = ([], sym (append-nil v.loads)); changes = ([], sym (append-nil v.changes)); steps = omega arith; residents = residents_same v.residents v.residents refl };
  links = λ g. looked_same (link v g) (link v g) refl;
}

-- the header of a frame is locked, and given up
pub locks_of : (f word : ℕ) (v w : View) → ((u : View) × (was : ℕ) × Looks f v u × Did (pins pin.lock_header) f u w was × (fields word ≡ locked_fields (fields was))) → TakesHeader f v w word
locks_of f word v w a = record { before = a.0; was = a.1; looks = a.2; did = a.3; held = a.4 }

module _ (f word : ℕ) (v w : View) (locks : TakesHeader f v w word) where
  pub gets : GetsHeader f word v w
  gets = let before = looks_touch f v locks.before locks.looks in record {
    aside = aside_on v locks.before w (keeps_looks f v locks.before locks.looks).aside (aside pin.lock_header (λ s g x. refl) f locks.was locks.before w locks.did);
    grows = grows_on v locks.before w before.grows (grows (pins pin.lock_header) f locks.was locks.before w locks.did);
    here = locked_after f locks.was word v locks.before w locks.looks locks.did locks.held;
    others = λ g n. looked_same (link v g) (link w g) (others pin.lock_header (λ s h x. refl) f locks.was locks.before w locks.did g n ∙ before.others g n);
  }

  -- no tag word is stored where no header is held
  pub settled : HoldsNoHeader v → (link w f).pending ≡ false
  settled none = gets.here.pending ∙ sym (looks_link f v locks.before locks.looks).pending ∙ of_pending (link locks.before f).pending refl
    where
      of_pending : (b : Bool) → (link locks.before f).pending ≡ b → b ≡ false
      of_pending false e = refl
      of_pending true e = absurd (((locks.did.laws.invariant.pool.core.grid.cells locks.did.seat locks.before f locks.did.there locks.did.inside).pending e).held ((looks_link f v locks.before locks.looks).header ∙ none f))

  pub holds : HoldsNoHeader v → HoldsHeader (link w f)
  holds none = record {
    held = λ e. let no : Some (fields word) ≡ None = sym gets.here.header ∙ e in absurd (cc);
    settled = settled none;
  }

pub unlocked_back : (word : ℕ) (l m o : Link) → Looked (locked_link word l) m → Looked (unlocked_link m) o → l.header ≡ None → Looked l o
unlocked_back word l m o a b none = looked_by l o (quiet (unlocked_link m) o b ∙ ap unlocked_link (quiet (locked_link word l) m a) ∙ (λ i. record (quiet_link l) { header = sym none i })) (λ saw. b.seen_valid (a.seen_valid saw)) (λ w. b.waits (a.waits w)) (λ p. b.visited (a.visited p)) (λ z. b.left_to_write (a.left_to_write z))

pub gives_up : (f word : ℕ) (v u w : View) → GetsHeader f word v u → HoldsNoHeader v → SameAside u w → Grows u w → ((g : ℕ) → g ≢ f → link w g ≡ link u g) → Looked (unlocked_link (link u f)) (link w f) → KeepsFrames v w
gives_up f word v u w a none beside more same here = record {
  aside = aside_on v u w a.aside beside;
  grows = grows_on v u w a.grows more;
  links = λ g. dite (ℕ_discrete g f)
      (λ e. subst (λ (x : ℕ). Looked (link v x) (link w x)) (sym e) (unlocked_back word (link v f) (link u f) (link w f) a.here here (none f)))
      (λ n. looked_on (link v g) (link u g) (link w g) (a.others g n) (looked_same (link u g) (link w g) (same g n)));
}

pub unlocks_keep : (f word found : ℕ) (v u w : View) → TakesHeader f v u word → HoldsNoHeader v → Did (pins pin.unlock_header) f u w found → KeepsFrames v w
unlocks_keep f word found v u w locks none d = gives_up f word v u w (gets f word v u locks) none
    (aside pin.unlock_header (λ s g x. refl) f found u w d)
    (grows (pins pin.unlock_header) f found u w d)
    (others pin.unlock_header (λ s g x. refl) f found u w d)
    (looked_same (unlocked_link (link u f)) (link w f) (link_is (pins pin.unlock_header) f found u w d))

unlocked_looked : (l m : Link) → Looked l m → Looked (unlocked_link l) (unlocked_link m)
unlocked_looked l m a = looked_by (unlocked_link l) (unlocked_link m) (ap unlocked_link (quiet l m a)) a.seen_valid a.waits a.visited a.left_to_write

pub lowers_keep : (f word : ℕ) (v u w : View) → TakesHeader f v u word → HoldsNoHeader v → Did (pins pin.lower_usage) f u w word → KeepsFrames v w
lowers_keep f word v u w locks none d = gives_up f word v u w (gets f word v u locks) none
    (aside pin.lower_usage (λ s g x. refl) f word u w d)
    (grows (pins pin.lower_usage) f word u w d)
    (others pin.lower_usage (λ s h x. refl) f word u w d)
    (looked_same (unlocked_link (link u f)) (link w f) (link_is (pins pin.lower_usage) f word u w d))

pub leaves_keep : (limit f : ℕ) (v w : View) → LeavesFrame limit f v w → HoldsNoHeader v → KeepsFrames v w
leaves_keep limit f v w l none = unlocks_keep f l.word l.found v l.under w l.locks none l.unlocks

pub skips_keep : (n limit f : ℕ) (v w : View) → Skips n limit f v w → HoldsNoHeader v → KeepsFrames v w
skips_keep n limit f v w (choice.beyond over same) none = keeps_same v w same
skips_keep n limit f v w (choice.unfit low l) none = leaves_keep limit f v w l none

pub ring_keeps : (n : ℕ) (place : Option ℕ) (v w : View) → LeavesRing n place v w → HoldsNoHeader v → KeepsFrames v w
ring_keeps n place v w (choice.empty e same) none = keeps_same v w same
ring_keeps n place v w (choice.tried f e s) none = skips_keep n 1 f v w s none

pub list_keeps : (n : ℕ) (v : View) (q : QueueState) (w : View) (r : QueueState) → LeavesFree n v q w r → HoldsNoHeader v → KeepsFrames v w
list_keeps n v q w r choice.still none = keeps_none v
list_keeps n v q w r (choice.again {u = u} {r = p} f before low s) none = let a = list_keeps n v q u p before none in keeps_on v u w a (skips_keep n 0 f u w s (headless_on v u a none))

-- a census
pub counts_keep : (entry v : View) (k : ℕ) (w : View) (words : List ℕ) → Counts entry v k w words → KeepsFrames v w
counts_keep entry v k w words choice.nothing = keeps_none v
counts_keep entry v k w words (choice.one_more {f = f} {u = u} {words = before} word c same d some) = keeps_on v u w (counts_keep entry v f u before c) (keeps_looking f word u w d)

pub counts_from : (entry v : View) → SamePins entry v → (k : ℕ) (w : View) (words : List ℕ) → Counts v v k w words → Counts entry v k w words
counts_from entry v first k w words choice.nothing = choice.nothing
counts_from entry v first k w words (choice.one_more {f = f} {u = u} {words = before} word c same d some) = choice.one_more word (counts_from entry v first f u before c) (λ g. same g ∙ first g) d some

pub counts_length : (entry v : View) (k : ℕ) (w : View) (words : List ℕ) → Counts entry v k w words → length words ≡ k
counts_length entry v k w words choice.nothing = refl
counts_length entry v k w words (choice.one_more {f = f} {u = u} {words = before} word c same d some) = let e = counts_length entry v f u before c in let g = length-append before (word ∷ []) in omega arith

pub counts_pinned : (entry v : View) (k : ℕ) (w : View) (words : List ℕ) → Counts entry v k w words → All (λ word. 0 < (fields word).pins) words
counts_pinned entry v k w words choice.nothing = All-nil (λ word. 0 < (fields word).pins)
counts_pinned entry v k w words (choice.one_more {f = f} {u = u} {words = before} word c same d some) = All-push (λ x. 0 < (fields x).pins) before word (counts_pinned entry v f u before c) some

-- the clock
pub next_keeps : (n tries : ℕ) (v w : View) (f left : ℕ) → NextIs n tries v w f left → KeepsFrames v w
next_keeps n tries v w f left (choice.ticked hand some d e same) = keeps_hand hand v w d
next_keeps n tries v w f left (choice.counted e found same) = keeps_on v found.before w (counts_keep v v f found.before found.words found.counts) (keeps_looking f found.word found.before w found.did)

pub passes_keep : (n f tries : ℕ) (v w : View) (left : ℕ) → Passes n f tries v w left → HoldsNoHeader v → KeepsFrames v w
passes_keep n f tries v w left (choice.lowers {u = u} {word = word} locks used d e) none = lowers_keep f word v u w locks none d
passes_keep n f tries v w left (choice.leaves {u = u} {word = word} {found = found} locks some d e) none = unlocks_keep f word found v u w locks none d

-- never more tries than frames
pub passes_few : (n f tries : ℕ) (v w : View) (left : ℕ) → tries ≤ n → Passes n f tries v w left → left ≤ n
passes_few n f tries v w left few (choice.lowers locks used d e) = omega arith
passes_few n f tries v w left few (choice.leaves locks some d e) = omega arith

pub sweeps_keep : (n : ℕ) (v w : View) (left : ℕ) → Sweeps n v w left → HoldsNoHeader v → KeepsFrames v w
sweeps_keep n v w left choice.starts none = keeps_none v
sweeps_keep n v w left (choice.passes {u = u} {x = x} {tries = tries} {left = rest} f before next p) none = let a = sweeps_keep n v u tries before none in let b = keeps_on v u x a (next_keeps n tries u x f rest next) in keeps_on v x w b (passes_keep n f rest x w left p (headless_on v x b none))

pub comes_keep : (n : ℕ) (v w : View) (f left : ℕ) → Comes n v w f left → HoldsNoHeader v → KeepsFrames v w
comes_keep n v w f left (u, tries, sweeps, next) none = keeps_on v u w (sweeps_keep n v u tries sweeps none) (next_keeps n tries u w f left next)

-- the choice
pub gets_on : (f word : ℕ) (v u w : View) → KeepsFrames v u → GetsHeader f word u w → GetsHeader f word v w
gets_on f word v u w a b = record {
  aside = aside_on v u w a.aside b.aside;
  grows = grows_on v u w a.grows b.grows;
  here = looked_on (locked_link word (link v f)) (locked_link word (link u f)) (link w f) (relocked (link v f) (link u f) (a.links f)) b.here;
  others = λ g n. looked_on (link v g) (link u g) (link w g) (a.links g) (b.others g n);
}
  where
    relocked : (l m : Link) → Looked l m → Looked (locked_link word l) (locked_link word m)
    relocked l m c = looked_by (locked_link word l) (locked_link word m) (ap (locked_link word) (quiet l m c)) c.seen_valid c.waits c.visited c.left_to_write

pub takes_gets : (limit : ℕ) (held : LockedFrame) (v u w : View) → KeepsFrames v u → Takes limit held u w → GetsHeader held.frame held.word v w
takes_gets limit held v u w a t = gets_on held.frame held.word v u w a (gets held.frame held.word u w t.locks)

pub chooses_gets : (n : ℕ) (place : Option ℕ) (v : View) (q : QueueState) (w : View) (p : QueueState) (held : LockedFrame) → Chooses n place v q w p held → HoldsNoHeader v → GetsHeader held.frame held.word v w
chooses_gets n place v q w p held (choice.from_ring source e t same) none = takes_gets 1 held v v w (keeps_none v) t
chooses_gets n place v q w p held (choice.from_list {u = u} {x = x} {p = s} source r l t popped) none = let a = ring_keeps n place v u r none in let b = keeps_on v u x a (list_keeps n u q x s l (headless_on v u a none)) in takes_gets 0 held v x w b t
chooses_gets n place v q w p held (choice.by_clock {u = u} {x = x} {y = y} {left = left} source r l empty c t) none = let a = ring_keeps n place v u r none in let b = keeps_on v u x a (list_keeps n u q x p l (headless_on v u a none)) in
    takes_gets 0 held v y w (keeps_on v x y b (comes_keep n x y held.frame left c (headless_on v x b none))) t

-- a frame that no backend pins isn't pinned by this one
takes_absent : (limit : ℕ) (held : LockedFrame) (v w : View) → Takes limit held v w → (link w held.frame).role ≡ Absent
takes_absent limit held v w t = ap (λ (l : Link). l.role) (link_is (pins pin.lock_header) held.frame t.locks.was t.locks.before w t.locks.did) ∙ of_role (link t.locks.before held.frame).role refl
  where
    none : (t.locks.did.state.pool.core.frame held.frame).word.pins ≡ 0
    none = ap (λ (x : StateWord). x.pins) t.locks.did.says ∙ sym (ap (λ (x : StateWord). x.pins) t.locks.held) ∙ t.fit.unpinned

    some : (link t.locks.before held.frame).role ≢ Absent → 0 < (t.locks.did.state.pool.core.frame held.frame).word.pins
    some pinned = own_pins t.locks.did.state.pool.core t.locks.did.laws.invariant.pool.core t.locks.did.seat held.frame t.locks.before t.locks.did.there t.locks.did.inside pinned

    of_role : (r : Role) → (link t.locks.before held.frame).role ≡ r → r ≡ Absent
    of_role Absent e = refl
    of_role HandedOut e = let a = some (λ no. let x : HandedOut ≡ Absent = sym e ∙ no in absurd (cc)) in absurd (omega (arith, a, none))
    of_role Victim e = let a = some (λ no. let x : Victim ≡ Absent = sym e ∙ no in absurd (cc)) in absurd (omega (arith, a, none))

pub chooses_absent : (n : ℕ) (place : Option ℕ) (v : View) (q : QueueState) (w : View) (p : QueueState) (held : LockedFrame) → Chooses n place v q w p held → GetsHeader held.frame held.word v w → (link v held.frame).role ≡ Absent
chooses_absent n place v q w p held (choice.from_ring source e t same) g = sym g.here.role ∙ takes_absent 1 held v w t
chooses_absent n place v q w p held (choice.from_list {u = u} {x = x} source r l t popped) g = sym g.here.role ∙ takes_absent 0 held x w t
chooses_absent n place v q w p held (choice.by_clock {u = u} {x = x} {y = y} {left = left} source r l empty c t) g = sym g.here.role ∙ takes_absent 0 held y w t

-- what was taken from the ring stands at its place
pub chooses_place : (n : ℕ) (place : Option ℕ) (v : View) (q : QueueState) (w : View) (p : QueueState) (held : LockedFrame) → Chooses n place v q w p held → held.from_ring ≡ true → place ≡ Some held.frame
chooses_place n place v q w p held (choice.from_ring source e t same) ring = e
chooses_place n place v q w p held (choice.from_list source r l t popped) ring = let no : false ≡ true = sym source ∙ ring in absurd (cc)
chooses_place n place v q w p held (choice.by_clock source r l empty c t) ring = let no : false ≡ true = sym source ∙ ring in absurd (cc)

pub none_keeps : (n : ℕ) (place : Option ℕ) (v : View) (q : QueueState) (w : View) (p : QueueState) (words : List ℕ) → FindsNone n place v q w p words → HoldsNoHeader v → KeepsFrames v w
none_keeps n place v q w p words k none = let a = ring_keeps n place v k.listed k.ring none in let b = keeps_on v k.listed k.started a (list_keeps n k.listed q k.started p k.free (headless_on v k.listed a none)) in let c = keeps_on v k.started k.tired b (sweeps_keep n k.started k.tired 0 k.clock (headless_on v k.started b none)) in
    keeps_on v k.tired w c (counts_keep v k.tired n w words k.census)

-- seats
module _ {L G : Type 0} (t : FrameTable L G) where
  pub seat_on : (s s' : Seat (Value L G) View) → IsSeat t s → SameSeat s s' → KeepsFrames s.me.0 s'.me.0 → IsSeat t s'
  seat_on s s' a same keeps = record { fits = same.table ∙ a.fits; live = ap (λ (x : View). x.emptied) keeps.aside ∙ a.live }

  pub steps_at : (s : Seat (Value L G) View) (f : ℕ) → IsSeat t s → f < frames_of t → CanStep t s f
  steps_at s f a low = record { fits = a.fits; live = a.live; inside = low }

-- what follows where there is nothing
pub none_to : {A : Type 0} {P Q : Type 0} (o : Option A) → (P → Q) → IfNone o P → IfNone o Q
none_to None to p = to p
none_to (Some x) to p = p

-- what follows from two facts of an answer
pub ok_to : {A E : Type 0} {P Q R : A → Type 0} (r : Result A E) → ((x : A) → P x → Q x → R x) → IfOk r P → IfOk r Q → IfOk r R
ok_to (Ok x) to p q = to x p q
ok_to (Err e) to p q = p

-- nothing was chosen
pub finds_none : (n : ℕ) (place : Option ℕ) (v listed started w : View) (q p : QueueState) (words : List ℕ) → HoldsNoHeader v → LeavesRing n place v listed → LeavesFree n listed q started p → ListHad 0 p.known → (tired : View) × Sweeps n started tired 0 × Counts tired tired n w words → FindsNone n place v q w p words
finds_none n place v listed started w q p words none r l empty (tired, s, c) = let a = ring_keeps n place v listed r none in let b = keeps_on v listed started a (list_keeps n listed q started p l (headless_on v listed a none)) in record {
  listed = listed;
  started = started;
  tired = tired;
  ring = r;
  free = l;
  empty = empty;
  clock = s;
  census = counts_from v tired (same_pins v tired (keeps_on v started tired b (sweeps_keep n started tired 0 s (headless_on v started b none)))) n w words c;
}
