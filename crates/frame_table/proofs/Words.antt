-- Operations on state words, for each kind.
use Rattle.std.proofs.Common.{◌≡◌, ◌≢◌, ℕ, ◌+◌, ◌*◌, ◌<◌, ◌%◌, ◌^◌, eqb, cond, bit_or, bit_and, Option, Bool, true, false, List, Some, None, get_or, set, length, get_or-set_same, get_or-set_other, sym, refl, ap, ◌∙◌, subst, arith, eq-eqb, ne_eqb}
use mathlib.Core.Logic.{dite}
use mathlib.Core.Option.{none, some}
use native.Mathlib.Decide.{ℕ_discrete}
use lib.ListN.{get_elem?}
use lib.Seq.{set-get_or}
use prog.Atomic.{either}
use Rattle.atomic_table.specs.Table.{Me, step, Allows}
use Rattle.atomic_table.specs.Table as table
use Rattle.state_word.specs.declared.word.StateWord.{StateWord}
use Rattle.state_word.specs.Fields.{fields, bit, pinned_fields, unpinned_fields, locked_fields, unlocked_fields}
use Rattle.state_word.specs.declared.word.Flag.TheVariants.{Locked}
use Rattle.state_word.proofs.Masks.{sets_flag, clears_flag}
use Rattle.pin_core.specs.declared.view.View.{View}
use Rattle.pin_core.specs.declared.view.Role.TheVariants.{Absent}
use Rattle.pin_core.specs.declared.view.Content.TheVariants.{Unlocked}
use Rattle.pin_core.specs.declared.view.Io.TheVariants.{Quiet}
use Rattle.pin_core.specs.State.{Frame, link}
use Rattle.pin_core.specs.Kinds as pin
use Rattle.pin_core.specs.Steps.{HoldsNoHeader}
use Rattle.history_core.specs.Laws.{Laws}
use Rattle.history_core.specs.State.{State}
use Rattle.table_rule.specs.declared.value.Value.{Value}
use Rattle.table_rule.specs.declared.opening.Opening.{Opening}
use Rattle.table_rule.specs.Layout.{tag_partition, state_place}
use Rattle.pin_core.proofs.SizeSchedules.{none_noted}
use Rattle.frame_table.specs.Kinds.{FrameKind, pins, part_of, load_kind, frame_after, link_after, IsAllowed, IsAllowedAround}
use Rattle.table_rule.specs.Shows.{ShowsFrame, Devices, Shows, RuleHolds}
use Rattle.frame_table.specs.FrameSteps.{part_place, has_locked, has_tag, always, if_found, if_unlocked, chosen, tells, looking}
use Rattle.frame_table.proofs.Frames.{Asks}
use Rattle.frame_table.proofs.Acting.{acts}

-- the parts of a frame that no state word has
pub record SameRest (fr fr' : Frame) : Type 0 where
  pub tag : fr'.tag ≡ fr.tag
  pub sharers : fr'.sharers ≡ fr.sharers
  pub exclusive : fr'.exclusive ≡ fr.exclusive
  pub copying : fr'.copying ≡ fr.copying
  pub page : fr'.page ≡ fr.page

-- another state word shows a frame that has its fields
state_shows : (words : List ℕ) (f n : ℕ) (fr fr' : Frame) → 8 * f < length words → fr'.word ≡ fields n → SameRest fr fr' → ShowsFrame words f fr → ShowsFrame (set words (8 * f) n) f fr'
state_shows words f n fr fr' low word rest h = let e1 : get_or (set words (8 * f) n) (8 * f + 1) 0 ≡ get_or words (8 * f + 1) 0 = get_or-set_other words (8 * f) (8 * f + 1) n 0 (omega arith) in
    let e2 : get_or (set words (8 * f) n) (8 * f + 2) 0 ≡ get_or words (8 * f + 2) 0 = get_or-set_other words (8 * f) (8 * f + 2) n 0 (omega arith) in record {
      word = word ∙ ap fields (sym (get_or-set_same words (8 * f) n 0 low));
      tag = rest.tag ∙ h.tag ∙ sym e1;
      sharers = rest.sharers ∙ h.sharers ∙ ap (λ (x : ℕ). x % 2 ^ 18) (sym e2);
      exclusive = rest.exclusive ∙ h.exclusive ∙ ap (bit 18) (sym e2);
      copying = rest.copying ∙ h.copying ∙ ap (bit 19) (sym e2);
      small = subst (λ (x : ℕ). x < 2 ^ 20) (sym e2) h.small;
    }

-- What a step of the kind k asks at the state word of f, which becomes n
pub record AsksWord (k : FrameKind) (s : State) (f n : ℕ) (v : View) : Type 0 where
  pub allowed : IsAllowed k s f v
  pub around : IsAllowedAround k s f v
  pub word : (frame_after k s f).word ≡ fields n
  pub rest : SameRest (s.pool.core.frame f) (frame_after k s f)
  pub out : (link_after k s f v).out ≡ (link v f).out

-- a view that holds the header has the frame's word
pub held_word : (s : State) (id f : ℕ) (v : View) → Laws s → get_elem? s.pool.core.views id ≡ some v → f < s.pool.core.frames → (link v f).header ≢ None → (link v f).header ≡ Some (s.pool.core.frame f).word
held_word s id f v laws there inside held = of_header (link v f).header refl
  where
    of_header : (w : Option StateWord) → (link v f).header ≡ w → (link v f).header ≡ Some (s.pool.core.frame f).word
    of_header None e = absurd (held e)
    of_header (Some w) e = e ∙ ap (λ (x : StateWord). Some x) (sym ((laws.invariant.pool.core.grid.cells id v f there inside).header w e))

module _ {L G : Type 0} (d : Devices L G) (o : Opening L G) where
  pub at_word : (k : FrameKind) (t : table.State (Value L G) View) (s : State) (f n : ℕ) (v : View) → f < o.config.frames → Shows d o t s → AsksWord k s f n v → Asks k t s f (8 * f) n v
  at_word k t s f n v below h a = record {
    allowed = a.allowed;
    around = a.around;
    shows = state_shows t.words f n (s.pool.core.frame f) (frame_after k s f) (let wide = h.words in omega arith) a.word a.rest (h.frame f below);
    page = a.rest.page;
    out = a.out;
  }

  looks_at : (t : table.State (Value L G) View) (s : State) (f : ℕ) (v : View) → f < o.config.frames → Shows d o t s → Asks looking t s f (8 * f) (get_or t.words (8 * f) 0) v
  looks_at t s f v below h = record { allowed = tt; around = tt; shows = subst (λ (ws : List ℕ). ShowsFrame ws f (s.pool.core.frame f)) (sym (set-get_or t.words (8 * f) 0)) (h.frame f below); page = refl; out = refl }

  -- whatever the state, what the state word says of its frame
  says : (t : table.State (Value L G) View) (s : State) (f : ℕ) → f < o.config.frames → Shows d o t s → (s.pool.core.frame f).word ≡ fields (get_or t.words (8 * f) 0)
  says t s f below h = (h.frame f below).word

  pub looks : (slots id f : ℕ) (me : Me (Value L G) View) → f < o.config.frames → me.0.emptied ≡ false → Allows (RuleHolds d o) slots id me (state_place f) (λ n. n) (tells (always looking) (step slots (state_place f) 0 0 none) me)
  looks slots id f me below live = acts d o (always looking) slots id f 0 0 (λ n. n) me below live (λ t s h laws there small. looks_at t s f me.0 below h)

  -- a step of the kind k at a state word, whatever the word was
  pub stores : (k : FrameKind) → part_of k ≡ part_of looking → (slots id f a b new : ℕ) (me : Me (Value L G) View) → f < o.config.frames → me.0.emptied ≡ false
      → ((s : State) → Laws s → get_elem? s.pool.core.views id ≡ some me.0 → f < s.pool.core.frames → AsksWord k s f new me.0)
      → Allows (RuleHolds d o) slots id me (state_place f) (λ _. new) (tells (always k) (step slots (state_place f) a b none) me)
  stores k part slots id f a b new me below live asked = subst (λ (i : ℕ). Allows (RuleHolds d o) slots id me i (λ _. new) (tells (always k) (step slots i a b none) me)) at (acts d o (always k) slots id f a b (λ _. new) me below live
      (λ t s h laws there small. subst (λ (i : ℕ). Asks k t s f i new me.0) (sym at) (at_word k t s f new me.0 below h (asked s laws there (let e = h.fixed.frames in omega arith)))))
    where
      at : part_place (part_of k) f ≡ state_place f
      at = ap (λ p. part_place p f) part

  -- a compare-exchange of the state word from `was` to `new`
  pub swaps : (k : FrameKind) → part_of k ≡ part_of looking → (slots id f was new : ℕ) (me : Me (Value L G) View) → f < o.config.frames → me.0.emptied ≡ false
      → ((s : State) → Laws s → get_elem? s.pool.core.views id ≡ some me.0 → s.pool.core.partition_of ≡ tag_partition → f < s.pool.core.frames → (s.pool.core.frame f).word ≡ fields was → AsksWord k s f new me.0)
      → Allows (RuleHolds d o) slots id me (state_place f) (λ n. either (eqb n was) new n) (tells (if_found k) (step slots (state_place f) was new none) me)
  swaps k part slots id f was new me below live asked = subst (λ (i : ℕ). Allows (RuleHolds d o) slots id me i (λ n. either (eqb n was) new n) (tells (if_found k) (step slots i was new none) me)) at
      (acts d o (if_found k) slots id f was new (λ n. either (eqb n was) new n) me below live
      (λ t s h laws there small. subst (λ (i : ℕ). Asks (chosen (if_found k) was (get_or t.words i 0)) t s f i (either (eqb (get_or t.words i 0) was) new (get_or t.words i 0)) me.0) (sym at) (of_test t s h laws there)))
    where
      at : part_place (part_of k) f ≡ state_place f
      at = ap (λ p. part_place p f) part

      of_test : (t : table.State (Value L G) View) (s : State) → Shows d o t s → Laws s → get_elem? s.pool.core.views id ≡ some me.0
          → Asks (chosen (if_found k) was (get_or t.words (8 * f) 0)) t s f (8 * f) (either (eqb (get_or t.words (8 * f) 0) was) new (get_or t.words (8 * f) 0)) me.0
      of_test t s h laws there = let n : ℕ = get_or t.words (8 * f) 0 in dite (ℕ_discrete n was)
          (λ hit. subst (λ (b : Bool). Asks (cond b k (load_kind (part_of k))) t s f (8 * f) (either b new n) me.0) (sym (eq-eqb n was hit)) (at_word k t s f new me.0 below h (asked s laws there h.fixed.partition_of (let e = h.fixed.frames in omega arith) (says t s f below h ∙ ap fields hit))))
          (λ miss. subst (λ (b : Bool). Asks (cond b k (load_kind (part_of k))) t s f (8 * f) (either b new n) me.0) (sym (ne_eqb n was miss)) (subst (λ p. Asks (load_kind p) t s f (8 * f) n me.0) (sym part) (looks_at t s f me.0 below h)))

  pub pins_there : (ring : Bool) (slots id f was new : ℕ) (me : Me (Value L G) View) → f < o.config.frames → me.0.emptied ≡ false → (link me.0 f).role ≡ Absent → has_locked was ≡ false → has_tag was ≡ true → fields new ≡ pinned_fields ring (fields was)
      → Allows (RuleHolds d o) slots id me (state_place f) (λ n. either (eqb n was) new n) (tells (if_found (pins (pin.pin ring))) (step slots (state_place f) was new none) me)
  pins_there ring slots id f was new me below live absent unlocked tagged made = swaps (pins (pin.pin ring)) refl slots id f was new me below live (λ s laws there spread inside is. record {
    allowed = record { unlocked = ap (λ (w : StateWord). w.locked) is ∙ unlocked; absent = absent; tagged = ap (λ (w : StateWord). w.tag_valid) is ∙ tagged };
    around = tt;
    word = ap (pinned_fields ring) is ∙ sym made;
    rest = record { tag = refl; sharers = refl; exclusive = refl; copying = refl; page = refl };
    out = refl;
  })

  pub unpins_there : (slots id f was new : ℕ) (me : Me (Value L G) View) → f < o.config.frames → me.0.emptied ≡ false → (link me.0 f).role ≢ Absent → (link me.0 f).content ≡ Unlocked → (link me.0 f).io ≡ Quiet → (link me.0 f).waits ≡ None → has_locked was ≡ false → fields new ≡ unpinned_fields (fields was)
      → Allows (RuleHolds d o) slots id me (state_place f) (λ n. either (eqb n was) new n) (tells (if_found (pins pin.unpin)) (step slots (state_place f) was new none) me)
  unpins_there slots id f was new me below live pinned content io waits unlocked made = swaps (pins pin.unpin) refl slots id f was new me below live (λ s laws there spread inside is. record {
    allowed = record { unlocked = ap (λ (w : StateWord). w.locked) is ∙ unlocked; pinned = pinned; no_content = content; no_io = io; no_wait = waits; unnoted = none_noted s.pool.core laws.invariant.pool.sizes laws.invariant.quiet id f me.0 there inside };
    around = tt;
    word = ap unpinned_fields is ∙ sym made;
    rest = record { tag = refl; sharers = refl; exclusive = refl; copying = refl; page = refl };
    out = refl;
  })

  -- locking a header: where it was locked, this is a load
  pub locks_there : (slots id f : ℕ) (me : Me (Value L G) View) → f < o.config.frames → me.0.emptied ≡ false → HoldsNoHeader me.0
      → Allows (RuleHolds d o) slots id me (state_place f) (λ n. bit_or n 4194304) (tells (if_unlocked (pins pin.lock_header)) (step slots (state_place f) 4194304 0 none) me)
  locks_there slots id f me below live headless = acts d o (if_unlocked (pins pin.lock_header)) slots id f 4194304 0 (λ n. bit_or n 4194304) me below live (λ t s h laws there small. let n : ℕ = get_or t.words (8 * f) 0 in
      of_lock t s n h (says t s f below h) (has_locked n) refl)
    where
      set_already : (n : ℕ) → has_locked n ≡ true → fields (bit_or n 4194304) ≡ fields n
      set_already n e = sets_flag Locked n ∙ (λ i. record (fields n) { locked = sym e i })

      of_lock : (t : table.State (Value L G) View) (s : State) (n : ℕ) → Shows d o t s → (s.pool.core.frame f).word ≡ fields n → (b : Bool) → has_locked n ≡ b
          → Asks (cond b looking (pins pin.lock_header)) t s f (8 * f) (bit_or n 4194304) me.0
      of_lock t s n h is true e = at_word looking t s f (bit_or n 4194304) me.0 below h record { allowed = tt; around = tt; word = is ∙ sym (set_already n e); rest = record { tag = refl; sharers = refl; exclusive = refl; copying = refl; page = refl }; out = refl }
      of_lock t s n h is false e = at_word (pins pin.lock_header) t s f (bit_or n 4194304) me.0 below h record {
        allowed = record { unlocked = ap (λ (w : StateWord). w.locked) is ∙ e };
        around = headless;
        word = ap locked_fields is ∙ sym (sets_flag Locked n);
        rest = record { tag = refl; sharers = refl; exclusive = refl; copying = refl; page = refl };
        out = refl;
      }

  pub unlocks_there : (slots id f : ℕ) (me : Me (Value L G) View) → f < o.config.frames → me.0.emptied ≡ false → (link me.0 f).header ≢ None → (link me.0 f).pending ≡ false
      → Allows (RuleHolds d o) slots id me (state_place f) (λ n. bit_and n 18446744073705357311) (tells (always (pins pin.unlock_header)) (step slots (state_place f) 18446744073705357311 0 none) me)
  unlocks_there slots id f me below live held settled = acts d o (always (pins pin.unlock_header)) slots id f 18446744073705357311 0 (λ n. bit_and n 18446744073705357311) me below live (λ t s h laws there small. let n : ℕ = get_or t.words (8 * f) 0 in
      at_word (pins pin.unlock_header) t s f (bit_and n 18446744073705357311) me.0 below h record {
        allowed = record { held = held_word s id f me.0 laws there (let e = h.fixed.frames in omega arith) held; settled = settled };
        around = tt;
        word = ap unlocked_fields (says t s f below h) ∙ sym (clears_flag Locked n small);
        rest = record { tag = refl; sharers = refl; exclusive = refl; copying = refl; page = refl };
        out = refl;
      })
