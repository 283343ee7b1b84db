-- What callers know after loads.
use Rattle.std.proofs.Common.{◌≡◌, ◌≢◌, ℕ, ◌/◌, subst, refl, ◌<◌, ◌%◌, ◌^◌, ◌==◌, nat_eq, Bool, true, false, Option, Some, None, sym, ap, ◌∙◌, arith}
use Rattle.std.specs.Prelude.{not, ◌||◌, ◌&&◌, if◌then◌else◌}
use Rattle.std.proofs.Math.Bool.{and-false, or-true}
use mathlib.Core.Logic.{dite}
use mathlib.Core.Option.{some}
use native.Mathlib.Decide.{ℕ_discrete}
use lib.ListN.{get_elem?}
use Rattle.state_word.specs.declared.word.StateWord.{StateWord}
use Rattle.state_word.specs.Fields.{fields, locked_fields, bit}
use Rattle.pin_core.specs.declared.view.View.{View}
use Rattle.pin_core.specs.declared.view.Link.{Link}
use Rattle.pin_core.specs.declared.view.Role.{Role}
use Rattle.pin_core.specs.declared.view.Role.TheVariants.{Absent, HandedOut, Victim}
use Rattle.pin_core.specs.declared.view.Content.{Content}
use Rattle.pin_core.specs.declared.view.Content.TheVariants.{Shared}
use Rattle.pin_core.specs.State.{link}
use Rattle.pin_core.specs.Tallies.{flag_weight}
use Rattle.pin_core.specs.Kinds.{seen_valid_after, wait_after}
use Rattle.pin_core.specs.Kinds as pin
use Rattle.pin_core.proofs.Schedules.{few, own_pins}
use Rattle.page_core.specs.Tallies.{sharers, copies, weigh, share_weight}
use Rattle.grid.proofs.Sums.{term_le, total-none}
use Rattle.history_core.specs.Laws.{Laws}
use Rattle.history_core.specs.State.{State}
use Rattle.frame_table.specs.Kinds.{FrameKind, FrameWord, part_of, pins, state_word}
use Rattle.frame_table.specs.Seats.{IsWordOf, Looked}
use Rattle.frame_table.specs.FrameSteps.{Did, Looks, SaysOf, looking}
use Rattle.frame_table.specs.Content.{looking_content, has_exclusive}
use Rattle.frame_table.proofs.Told.{link_is, loads_link, looks_link, seen_still}

-- what the word shows that a step at a state word found
pub word_seen : (k : FrameKind) → part_of k ≡ state_word → (f found : ℕ) (v w : View) → Did k f v w found → IsWordOf (link v f) (fields found)
word_seen k part f found v w d = let column = d.laws.invariant.pool.core.grid.columns f d.inside in let cell = d.laws.invariant.pool.core.grid.cells d.seat v f d.there d.inside in
    subst (IsWordOf (link v f)) (subst (λ (p : FrameWord). SaysOf p found (d.state.pool.core.frame f)) part d.says) record {
      dirty = column.dirty;
      valid = column.valid;
      usage = column.usage;
      few = (let a = few d.state.pool.core d.laws.invariant.pool.core f d.inside in let c = d.few in omega arith);
      pinned = own_pins d.state.pool.core d.laws.invariant.pool.core d.seat f v d.there d.inside;
      remembered = λ there. of_tag there (link v f).tag refl;
      seen = cell.seen;
      output = λ writes. ((d.laws.invariant.pool.pages.cells d.seat v f d.there d.inside).output writes).0;
      input = λ reads. ((d.laws.invariant.pool.pages.cells d.seat v f d.there d.inside).input reads).1;
      held = cell.header;
    }
  where
    of_tag : (link v f).tag ≢ None → (tag : Option ℕ) → (link v f).tag ≡ tag → (d.state.pool.core.frame f).word.tag_valid ≡ true
    of_tag there None is = absurd (there is)
    of_tag there (Some tag) is = ((d.laws.invariant.pool.core.grid.cells d.seat v f d.there d.inside).remembers tag is).0.flagged

-- and after loads, with the header locked
word_looked : (l m : Link) (w : StateWord) → Looked l m → IsWordOf m w → IsWordOf l w
word_looked l m w a x = record {
  dirty = x.dirty;
  valid = x.valid;
  usage = x.usage;
  few = x.few;
  pinned = λ pinned. x.pinned (λ e. pinned (sym a.role ∙ e));
  remembered = λ there. x.remembered (λ e. there (sym a.tag ∙ e));
  seen = λ saw. x.seen (a.seen_valid saw);
  output = λ writes. x.output (a.io ∙ writes);
  input = λ reads. x.input (a.io ∙ reads);
  held = λ own is. x.held own (a.header ∙ is);
}

pub word_locked : (f was word : ℕ) (v u w : View) → Looks f v u → Did (pins pin.lock_header) f u w was → fields word ≡ locked_fields (fields was) → IsWordOf (link v f) (fields word)
word_locked f was word v u w looks d e = subst (IsWordOf (link v f)) (sym e) (held (word_looked (link v f) (link u f) (fields was) (looks_link f v u looks) (word_seen (pins pin.lock_header) refl f was u w d)))
  where
    -- the view held no header yet
    none : (own : StateWord) → (link v f).header ≡ Some own → ⊥
    none own is = let no : None ≡ Some own = sym (d.around f) ∙ (looks_link f v u looks).header ∙ is in absurd (cc)

    held : IsWordOf (link v f) (fields was) → IsWordOf (link v f) (locked_fields (fields was))
    held x = record { dirty = x.dirty; valid = x.valid; usage = x.usage; few = x.few; pinned = x.pinned; remembered = x.remembered; seen = x.seen; output = x.output; input = x.input; held = λ own is. absurd (none own is) }

-- no tag word is stored where a view's pin is handed out
pub handed_settled : (k : FrameKind) (f found : ℕ) (v w : View) → Did k f v w found → (link v f).role ≡ HandedOut → (link v f).pending ≡ false
handed_settled k f found v w d handed = of_pending (link v f).pending refl
  where
    not_victim : (r : Role) → r ≡ HandedOut → r ≡ Victim → ⊥
    not_victim r a b = cc (a, b)

    of_pending : (b : Bool) → (link v f).pending ≡ b → b ≡ false
    of_pending false e = refl
    of_pending true e = absurd (not_victim (link v f).role handed ((d.laws.invariant.pool.core.grid.cells d.seat v f d.there d.inside).pending e).victim)

seen_after : (pending saw valid : Bool) (r : Role) → pending ≡ false → r ≢ Absent → valid ≡ true → seen_valid_after pending r valid saw ≡ true
seen_after true saw valid r e pinned on = absurd (cc e)
seen_after false saw valid Absent e pinned on = absurd (pinned refl)
seen_after false saw true HandedOut e pinned on = refl
seen_after false saw true Victim e pinned on = refl
seen_after false saw false HandedOut e pinned on = absurd (cc on)
seen_after false saw false Victim e pinned on = absurd (cc on)

-- a pin sees BM_VALID
pub sees_valid : (f found : ℕ) (v w : View) → Did looking f v w found → (link v f).pending ≡ false → (link v f).role ≢ Absent → (fields found).valid ≡ true → (link w f).seen_valid ≡ true
sees_valid f found v w d settled pinned on = ap (λ (l : Link). l.seen_valid) (link_is looking f found v w d)
    ∙ seen_after (link v f).pending (link v f).seen_valid (d.state.pool.core.frame f).word.valid (link v f).role settled pinned (ap (λ (x : StateWord). x.valid) d.says ∙ on)

-- a wait is over if no number is in the word
over_after : (w : StateWord) (waits : Option ℕ) → w.awaited ≡ false → wait_after w waits ≡ None
over_after w None off = refl
over_after w (Some number) off = ap (λ (b : Bool). if b && nat_eq w.waiter number then Some number else None) off

pub sees_over : (f found : ℕ) (v w : View) → Did looking f v w found → (fields found).awaited ≡ false → (link w f).waits ≡ None
sees_over f found v w d off = ap (λ (l : Link). l.waits) (loads_link f found v w d) ∙ over_after (fields found) (link v f).waits off

-- the checkpoint passes a frame that isn't dirty, and need not write one that has not to be written
pub passes_clean : (f found : ℕ) (v w : View) → Did looking f v w found → (fields found).dirty ≡ false → (link w f).visited ≡ true
passes_clean f found v w d clean = ap (λ (l : Link). l.visited) (loads_link f found v w d) ∙ ap (λ (b : Bool). (link v f).visited || not b) clean ∙ or-true (link v f).visited

pub need_not_write : (f found : ℕ) (v w : View) → Did looking f v w found → (fields found).checkpoint_needed ≡ false → (link w f).left_to_write ≡ false
need_not_write f found v w d none = ap (λ (l : Link). l.left_to_write) (loads_link f found v w d) ∙ ap (λ (b : Bool). (link v f).left_to_write && b) none ∙ and-false (link v f).left_to_write

-- a pin that is handed out sees BM_VALID too
pub handed_sees : (f found : ℕ) (v w : View) → Did looking f v w found → (link v f).role ≡ HandedOut → (fields found).valid ≡ true → (link w f).seen_valid ≡ true
handed_sees f found v w d handed on = sees_valid f found v w d (handed_settled looking f found v w d handed) (λ e. let no : HandedOut ≡ Absent = sym handed ∙ e in absurd (cc)) on

-- and has seen it for good
pub keeps_seen : (f found : ℕ) (v w : View) → Did looking f v w found → (link v f).seen_valid ≡ true → (link w f).seen_valid ≡ true
keeps_seen f found v w d saw = ap (λ (l : Link). l.seen_valid) (link_is looking f found v w d)
    ∙ ap (λ (b : Bool). seen_valid_after (link v f).pending (link v f).role (d.state.pool.core.frame f).word.valid b) saw
    ∙ seen_still (link v f).pending (d.state.pool.core.frame f).word.valid (link v f).role

shared_one : (c : Content) → c ≡ Shared → share_weight c ≡ 1
shared_one c e = ap share_weight e

-- where none shares the lock, the copy latch is free
module _ (s : State) (laws : Laws s) (f : ℕ) (below : f < s.pool.core.frames) where
  no_copies : (s.pool.core.frame f).sharers ≡ 0 → (s.pool.core.frame f).copying ≡ false
  no_copies none = of_weight (s.pool.core.frame f).copying ((laws.invariant.pool.pages.columns f below).copying ∙ total-none (λ (u : View). weigh copies (link u f)) s.pool.core.views (λ j u at. of_copy j u at (link u f).copying refl))
    where
      of_weight : (b : Bool) → flag_weight b ≡ 0 → b ≡ false
      of_weight false e = refl
      of_weight true e = absurd (omega (arith, e))

      of_copy : (j : ℕ) (u : View) → get_elem? s.pool.core.views j ≡ some u → (b : Bool) → (link u f).copying ≡ b → flag_weight b ≡ 0
      of_copy j u at false e = refl
      of_copy j u at true e = let c = laws.invariant.pool.pages.columns f below in
          absurd (omega (arith, none, c.shared, term_le (λ (x : View). weigh sharers (link x f)) s.pool.core.views j u at, shared_one (link u f).content ((laws.invariant.pool.pages.cells j u f at below).copying e)))

zero_bits : (n : ℕ) → n < 2 ^ 20 → n % 2 ^ 18 ≡ 0 → bit 18 n ≡ false → bit 19 n ≡ false → n ≡ 0
zero_bits n small low free home = let a = clear (n / 2 ^ 18 % 2) free (omega arith) in let b = clear (n / 2 ^ 19 % 2) home (omega arith) in omega arith
  where
    clear : (x : ℕ) → (x == 1) ≡ false → x < 2 → x ≡ 0
    clear x e h = grind arith

-- a content word that isn't 0 shows that the lock is held: one has it exclusively, or some share it
pub shows_holder : (f found : ℕ) (v w : View) → Did looking_content f v w found → found ≢ 0 → has_exclusive found ≡ false → 0 < found % 2 ^ 18
shows_holder f found v w d nonzero free = dite (ℕ_discrete (found % 2 ^ 18) 0)
    (λ none. absurd (nonzero (zero_bits found d.says.3 none free (sym d.says.2 ∙ no_copies d.state d.laws f d.inside (d.says.0 ∙ none)))))
    (λ n. omega (arith, n))
