-- An operation on a word of a frame is a step of the state.
use Rattle.std.proofs.Common.{◌≡◌, ℕ, ◌+◌, ◌*◌, ◌-◌, ◌<◌, nat_eq, cond, Bool, true, false, List, get_or, sym, refl, ap, ◌∙◌, subst, arith}
use mathlib.Core.Option.{none, some}
use lib.ListN.{get_elem?}
use Rattle.atomic_table.specs.Table.{Me, step, keeps, stepped, Allows}
use Rattle.atomic_table.specs.Table as table
use Rattle.state_word.specs.Fields.{fields}
use Rattle.pin_core.specs.declared.view.View.{View}
use Rattle.pin_core.specs.State.{Frame}
use Rattle.history_core.specs.Laws.{Laws}
use Rattle.history_core.specs.State.{State}
use Rattle.history_core.proofs.Laws.{laws_kept}
use Rattle.table_rule.specs.declared.value.Value.{Value}
use Rattle.table_rule.specs.declared.opening.Opening.{Opening}
use Rattle.frame_table.specs.Kinds.{FrameWord, state_word, tag_word, content_word, FrameKind, part_of, load_kind, view_after, state_after}
use Rattle.table_rule.specs.Shows.{ShowsFrame, Devices, Shows, RuleHolds}
use Rattle.frame_table.specs.FrameSteps.{part_place, SaysOf, Did, Choice, always, if_found, if_unlocked, chosen, choice_part, tells}
use Rattle.frame_table.proofs.Kept.{frame_step}
use Rattle.frame_table.proofs.Frames.{Asks, shows_after}

-- the words of a frame lie beside one another
part_low : (p : FrameWord) (f : ℕ) → (part_place p f ≡ 8 * f + (part_place p f - 8 * f)) × (part_place p f - 8 * f < 3)
part_low state_word f = (omega arith, omega arith)
part_low tag_word f = (omega arith, omega arith)
part_low content_word f = (omega arith, omega arith)

same_place : (p : FrameWord) (f g : ℕ) → part_place p f ≡ part_place p g → f ≡ g
same_place state_word f g e = omega arith
same_place tag_word f g e = omega arith
same_place content_word f g e = omega arith

part_says : (p : FrameWord) (words : List ℕ) (f : ℕ) (fr : Frame) → ShowsFrame words f fr → SaysOf p (get_or words (part_place p f) 0) fr
part_says state_word words f fr h = h.word
part_says tag_word words f fr h = h.tag
part_says content_word words f fr h = (h.sharers, h.exclusive, h.copying, h.small)

-- a load is at the same word
part_load : (p : FrameWord) → part_of (load_kind p) ≡ p
part_load state_word = refl
part_load tag_word = refl
part_load content_word = refl

part_chosen : (choice : Choice) (first n : ℕ) → part_of (chosen choice first n) ≡ choice_part choice
part_chosen (always k) first n = refl
part_chosen (if_found k) first n = of_test (nat_eq n first)
  where
    of_test : (b : Bool) → part_of (cond b k (load_kind (part_of k))) ≡ part_of k
    of_test true = refl
    of_test false = part_load (part_of k)
part_chosen (if_unlocked k) first n = of_test (fields n).locked
  where
    of_test : (b : Bool) → part_of (cond b (load_kind (part_of k)) k) ≡ part_of k
    of_test true = part_load (part_of k)
    of_test false = refl

module _ {L G : Type 0} (d : Devices L G) (o : Opening L G) where
  -- Where whatever state the table shows lets the seat make a step of the chosen kind, the operation keeps the rule, and tells that step
  pub acts : (choice : Choice) (slots id f a b : ℕ) (g : ℕ → ℕ) (me : Me (Value L G) View) → f < o.config.frames → me.0.emptied ≡ false
      → ((t : table.State (Value L G) View) (s : State) → Shows d o t s → Laws s → get_elem? s.pool.core.views id ≡ some me.0 → let i : ℕ = part_place (choice_part choice) f in let n : ℕ = get_or t.words i 0 in n < 18446744073709551616 → Asks (chosen choice a n) t s f i (g n) me.0)
      → Allows (RuleHolds d o) slots id me (part_place (choice_part choice) f) g (tells choice (step slots (part_place (choice_part choice) f) a b none) me)
  acts choice slots id f a b g me below live asked t h deep there small =
      let s = h.state in let i : ℕ = part_place (choice_part choice) f in let n : ℕ = get_or t.words i 0 in let k : FrameKind = chosen choice a n in
      let here : get_elem? s.pool.core.views id ≡ some me.0 = ap (λ (l : List View). get_elem? l id) (sym h.shows.views) ∙ there in
      let ok = asked t s h.shows h.laws here small in
      let inside : f < s.pool.core.frames = (let e = h.shows.fixed.frames in omega arith) in
      let low = part_low (choice_part choice) f in (
        view_after k s f me.0,
        keeps,
        tt,
        record {
          state = state_after k s id f me.0;
          shows = shows_after d o k t s id f i (g n) me.1 me.0 h.shows here below low.0 low.1 ok;
          laws = laws_kept (frame_step k s id f me.0 here live inside ok.allowed ok.around) h.laws;
        },
        (
          refl,
          λ x e. subst (λ (z : ℕ). Did k z me.0 (view_after k s f me.0) n) (same_place (choice_part choice) f x e) record {
            state = s;
            laws = h.laws;
            few = (let e = h.shows.fixed.backends in let q = h.shows.fixed.few_backends in omega arith);
            spread = h.shows.fixed.partition_of;
            seat = id;
            there = here;
            live = live;
            inside = inside;
            says = subst (λ (p : FrameWord). SaysOf p n (s.pool.core.frame f)) (sym (part_chosen choice a n)) (part_says (choice_part choice) t.words f (s.pool.core.frame f) (h.shows.frame f below));
            allowed = ok.allowed;
            around = ok.around;
            after = refl;
          },
        ),
      )
