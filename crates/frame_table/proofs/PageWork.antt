-- The page of a frame goes out with a backend, and comes back.
use Rattle.std.proofs.Common.{◌≡◌, ◌≢◌, ℕ, ◌+◌, ◌<◌, ◌≤◌, Bool, true, false, Some, None, List, ◌∷◌, get_or, set, get_or-set_same, get_or-set_other, sym, refl, ap, ◌∙◌, subst, arith, cond}
use mathlib.Core.Logic.{dite, ◌⊎◌, inl, inr}
use mathlib.Core.Option.{none, some, some-injective}
use native.Mathlib.Decide.{ℕ_discrete}
use lib.ListN.{get_elem?}
use lib.Seq.{set-get_or}
use Rattle.std.specs.Prelude.{is_some, Option, if◌then◌else◌}
use Rattle.std.proofs.lemmas.Option.{same_Some}
use Rattle.atomic_table.specs.Table.{Me, step, takes, gives, stepped, Allows, rest}
use Rattle.atomic_table.specs.Table as table
use Rattle.pin_core.specs.declared.view.Content.TheVariants.{Unlocked, Exclusive}
use Rattle.pin_core.specs.declared.view.Io.{Io}
use Rattle.pin_core.specs.declared.view.Io.TheVariants.{Quiet, Input, Output}
use Rattle.pin_core.specs.declared.view.Link.{Link}
use Rattle.pin_core.specs.declared.view.View.{View}
use Rattle.pin_core.specs.State.{Frame, Page, link, idle}
use Rattle.pin_core.specs.Tallies.{some_weight}
use Rattle.page_core.specs.Kinds as paged
use Rattle.page_core.specs.Tallies.{outs, weigh}
use Rattle.grid.proofs.Sums.{terms_le}
use Rattle.grid.proofs.Lists.{put_here, put_else}
use Rattle.grid.proofs.Lists as grid
use Rattle.history_core.specs.State.{State}
use Rattle.history_core.specs.Laws.{Laws}
use Rattle.history_core.proofs.Laws.{laws_kept}
use Rattle.table_rule.specs.declared.value.Value.{Value}
use Rattle.table_rule.specs.declared.value.Value.TheVariants as value
use Rattle.table_rule.specs.declared.opening.Opening.{Opening}
use Rattle.table_rule.specs.declared.turn.Place.{Place}
use Rattle.table_rule.specs.declared.turn.Place.TheVariants as place
use Rattle.table_rule.specs.declared.turn.Turn.TheVariants as turn
use Rattle.table_rule.specs.Layout.{content_place, slot_of}
use Rattle.table_rule.specs.Shows.{is_out, IsHome, Devices, Gives, GivesPage, KeepsOpening, HasValue, Shows, RuleHolds}
use Rattle.frame_table.specs.Kinds.{FrameKind, pages, part_of, content_word, frame_after, link_after, view_after, state_after, IsAllowed, IsAllowedAround}
use Rattle.frame_table.specs.FrameSteps.{Did, SaysOf}
use Rattle.frame_table.specs.PageWork.{MayTakePage, MayReturnPage, by_input, overwriting, input_page, page_went, page_came, ReturnsBy, page_out_link, applied_link, returned_link, read_home}
use Rattle.frame_table.proofs.Frames.{fixed_after, taken_same}
use Rattle.frame_table.specs.Seats.{Touches}
use Rattle.frame_table.proofs.Kept.{frame_step}
use Rattle.frame_table.proofs.Told.{link_is, named_of, touches, touches_on}
use Rattle.frame_table.proofs.Moving.{SameWords, words_none, Moves, moves_on, shows_out, shows_back}

module _ {L G : Type 0} (d : Devices L G) (o : Opening L G) where
  -- a step at the frame f that leaves its words moves its page alone
  page_moves : (k : paged.Kind) (s : State) (id f : ℕ) (v : View) → KeepsOpening d o s → SameWords (s.pool.core.frame f) (frame_after (pages k) s f) → Moves d o s (state_after (pages k) s id f v) id v (view_after (pages k) s f v) (place.Page f)
  page_moves k s id f v opened same = record {
    fixed = fixed_after d o (pages k) s id f v opened;
    views = refl;
    frames = λ g. dite (ℕ_discrete g f) (λ e. subst (λ (x : ℕ). SameWords (s.pool.core.frame x) ((state_after (pages k) s id f v).pool.core.frame x)) (sym e) (subst (SameWords (s.pool.core.frame f)) (sym (put_here s.pool.core.frame f (frame_after (pages k) s f))) same)) (λ n. subst (SameWords (s.pool.core.frame g)) (sym (put_else s.pool.core.frame f (frame_after (pages k) s f) g n)) (words_none (s.pool.core.frame g)));
    latches = taken_same (pages k) s id f v;
    words = refl;
    outs = outs_of;
    values = values_of;
  }
    where
      outs_of : (x : Place) → x ≢ place.Page f → is_out x (view_after (pages k) s f v) ≡ is_out x v
      outs_of (place.Page g) n = ap (λ (l : Link). is_some l.out) (get_or-set_other v.links f g (link_after (pages k) s f v) idle (λ e. n (ap (λ (z : ℕ). place.Page z) e)))
      outs_of (place.Of (turn.Partition p)) n = refl
      outs_of (place.Of (turn.Lane q)) n = refl
      outs_of (place.Of turn.Log) n = refl

      values_of : (x : Place) (z : Value L G) → x ≢ place.Page f → Gives d o s x z → Gives d o (state_after (pages k) s id f v) x z
      values_of (place.Page g) z n h = subst (λ (fr : Frame). GivesPage z fr.page) (sym (put_else s.pool.core.frame f (frame_after (pages k) s f) g (λ e. n (ap (λ (y : ℕ). place.Page y) e)))) h
      values_of (place.Of (turn.Partition p)) z n h = h
      values_of (place.Of (turn.Lane q)) z n h = h
      values_of (place.Of turn.Log) z n h = h

-- one of two that weigh at most 1 is out
home_of : (x y : Option Page) → some_weight x + some_weight y ≤ 1 → is_some x ≡ true → is_some y ≡ false
home_of None y h e = absurd (let no : false ≡ true = e in cc)
home_of (Some p) None h e = refl
home_of (Some p) (Some q) h e = absurd (omega arith)

-- what a view has at the frame after a step there
link_there : (s : State) (id f : ℕ) (v : View) (k : FrameKind) → Laws s → get_elem? s.pool.core.views id ≡ some v → v.emptied ≡ false → f < s.pool.core.frames → view_after k s f v ≡ record (view_after k s f v) { links = set v.links f (link_after k s f v) } → link (view_after k s f v) f ≡ link_after k s f v
link_there s id f v k laws there live inside e = ap (λ (x : View). link x f) e ∙ get_or-set_same v.links f (link_after k s f v) idle (let wide = (laws.invariant.pool.core.views.wide id v there live).0 in omega arith)

-- where a view has the page out by the law, no other has
module _ (s : State) (id f : ℕ) (v : View) (laws : Laws s) (there : get_elem? s.pool.core.views id ≡ some v) (inside : f < s.pool.core.frames) where
  pub alone_out : is_some (link v f).out ≡ true → (i : ℕ) (u : View) → i ≢ id → get_elem? s.pool.core.views i ≡ some u → is_some (link u f).out ≡ false
  alone_out out i u other at = home_of (link v f).out (link u f).out (let a = terms_le (λ (x : View). weigh outs (link x f)) s.pool.core.views id i v u other there at in let b = (laws.invariant.pool.pages.columns f inside).one_out in omega arith) out

module _ {L G : Type 0} (d : Devices L G) (o : Opening L G) where
  did_there : (t : table.State (Value L G) View) (k : paged.Kind) (s : State) (id f : ℕ) (v : View) → part_of (pages k) ≡ content_word → Shows d o t s → Laws s → get_elem? s.pool.core.views id ≡ some v → v.emptied ≡ false → f < o.config.frames → IsAllowed (pages k) s f v → IsAllowedAround (pages k) s f v → Did (pages k) f v (view_after (pages k) s f v) (get_or t.words (content_place f) 0)
  did_there t k s id f v is h laws there live below a b = record {
    state = s;
    laws = laws;
    few = (let e = h.fixed.backends in let q = h.fixed.few_backends in omega arith);
    spread = h.fixed.partition_of;
    seat = id;
    there = there;
    live = live;
    inside = (let e = h.fixed.frames in omega arith);
    says = subst (λ (p : _). SaysOf p (get_or t.words (content_place f) 0) (s.pool.core.frame f)) (sym is) (let w = h.frame f below in (w.sharers, w.exclusive, w.copying, w.small));
    allowed = a;
    around = b;
    after = refl;
  }

  pub page_goes_out : (slots id f : ℕ) (me : Me (Value L G) View) → f < o.config.frames → me.0.emptied ≡ false → MayTakePage (link me.0 f)
      → Allows (RuleHolds d o) slots id me (content_place f) (λ n. n) (page_went f (slot_of o.config.frames (place.Page f)) (step slots (content_place f) 0 0 none) me)
  page_goes_out slots id f me below live can t h deep there small = of_value value_there.value value_there.home value_there.gives
    where
      s : State
      s = h.state

      here : get_elem? s.pool.core.views id ≡ some me.0
      here = ap (λ (l : List View). get_elem? l id) (sym h.shows.views) ∙ there

      inside : f < s.pool.core.frames
      inside = let e = h.shows.fixed.frames in omega arith

      allowed : IsAllowed (pages paged.page_out) s f me.0
      allowed = (tt, record { page_home = can.home; shared = can.shared; unlocked = can.unlocked })

      w : View
      w = view_after (pages paged.page_out) s f me.0

      after : Laws (state_after (pages paged.page_out) s id f me.0)
      after = laws_kept (frame_step (pages paged.page_out) s id f me.0 here live inside allowed tt) h.laws

      out_is : link w f ≡ page_out_link (s.pool.core.frame f).page (link me.0 f)
      out_is = link_there s id f me.0 (pages paged.page_out) h.laws here live inside refl

      here_after : get_elem? (set s.pool.core.views id w) id ≡ some w
      here_after = grid.set_here s.pool.core.views id me.0 w here

      is_away : is_some (link w f).out ≡ true
      is_away = ap (λ (l : Link). is_some l.out) out_is

      none_out : IsHome (place.Page f) s.pool.core.views
      none_out i u at = dite (ℕ_discrete i id)
          (λ e. let same : me.0 ≡ u = some-injective me.0 u (sym here ∙ ap (get_elem? s.pool.core.views) (sym e) ∙ at) in ap (λ (x : View). is_some (link x f).out) (sym same) ∙ ap (λ (x : Option Page). is_some x) can.home)
          (λ n. alone_out (state_after (pages paged.page_out) s id f me.0) id f w after here_after inside is_away i u n (grid.set_else s.pool.core.views id i w n ∙ at))

      value_there : HasValue d o t.homes s (place.Page f)
      value_there = h.shows.homes (place.Page f) below none_out

      of_value : (y : Value L G) → get_elem? t.homes f ≡ some (some y) → GivesPage y (s.pool.core.frame f).page
          → (w : View) × (a : table.Act (Value L G)) × table.Valid t.homes me.1 a × RuleHolds d o (stepped t (content_place f) (get_or t.words (content_place f) 0) id me.1 w a)
          × page_went f f (step slots (content_place f) 0 0 none) me (get_or t.words (content_place f) 0) (w, table.carried_after me.1 a)
      of_value (value.Page q) home gives_it = (
        w,
        takes f (value.Page q),
        home,
        record {
          state = state_after (pages paged.page_out) s id f me.0;
          shows = shows_out d o (set t.words (content_place f) (get_or t.words (content_place f) 0)) t s (state_after (pages paged.page_out) s id f me.0) id me.0 w (place.Page f) (set-get_or t.words (content_place f) 0) h.shows here
              (page_moves d o paged.page_out s id f me.0 h.shows.fixed (words_none (s.pool.core.frame f))) below
              (λ home_w. let no : true ≡ false = sym is_away ∙ home_w id w here_after in absurd (cc));
          laws = after;
        },
        (value.Page q, (s.pool.core.frame f).page, refl, gives_it, ap (λ (l : Link). l.out) out_is, did_there t paged.page_out s id f me.0 refl h.shows h.laws here live below allowed tt),
      )
      of_value (value.Map m) home gives_it = absurd gives_it
      of_value (value.Lane l) home gives_it = absurd gives_it
      of_value (value.Log g) home gives_it = absurd gives_it
      of_value (value.Lanes l) home gives_it = absurd gives_it
      of_value value.Away home gives_it = absurd gives_it

-- What overwriting a page that is out asks and makes, where the page due is this one
record Overwrites (k : paged.Kind) (s : State) (f : ℕ) (v : View) (page : Page) : Type 0 where
  pub word : part_of (pages k) ≡ content_word
  pub allowed : IsAllowed (pages k) s f v
  pub around : IsAllowedAround (pages k) s f v
  pub words : SameWords (s.pool.core.frame f) (frame_after (pages k) s f)
  pub page_is : (frame_after (pages k) s f).page ≡ page
  pub out : (link_after (pages k) s f v).out ≡ (link v f).out

module _ (s : State) (id f : ℕ) (v : View) (page : Page) (laws : Laws s) (there : get_elem? s.pool.core.views id ≡ some v) (inside : f < s.pool.core.frames) (can : MayReturnPage page (link v f)) where
  -- with the image of the entry
  overwrites_logged : (link v f).unapplied ≡ true → Overwrites paged.overwrite_logged s f v page
  overwrites_logged e = let law = (laws.invariant.pool.pages.cells id v f there inside).unapplied e in let image : (link v f).image ≡ Some page = sym (ap (λ (b : Bool). cond b (link v f).image (input_page (link v f).io (link v f).read (link v f).out)) e) ∙ can.due in record {
    word = refl;
    allowed = (tt, record { out = can.out; once = can.once; unapplied = e });
    around = tt;
    words = record { word = refl; tag = refl; sharers = refl; exclusive = refl; copying = refl };
    page_is = ap (λ (x : Option Page). paged.image_over x (s.pool.core.frame f).page) (law.image page image);
    out = refl;
  }

  -- with the page that the lane gave
  overwrites_read : (p : Page) → (link v f).io ≡ Input → (link v f).read ≡ Some p → p ≡ page → Overwrites (paged.overwrite_read p) s f v page
  overwrites_read p io read same = record {
    word = refl;
    allowed = (tt, record { out = can.out; once = can.once; right = io; read = read });
    around = tt;
    words = record { word = refl; tag = refl; sharers = refl; exclusive = refl; copying = refl };
    page_is = same;
    out = refl;
  }

  -- The page is overwritten by the kind that is due, or is as it was taken
  overwrites_or : (x : Option paged.Kind) → overwriting (link v f) ≡ x → ((x ≡ None) × ((s.pool.core.frame f).page ≡ page)) ⊎ ((k : paged.Kind) × (x ≡ Some k) × Overwrites k s f v page)
  overwrites_or x e = of_flag (link v f).unapplied refl
    where
      taken_is : (link v f).out ≡ Some page → (s.pool.core.frame f).page ≡ page
      taken_is out = (laws.invariant.pool.pages.cells id v f there inside).taken page out can.once

      of_io : (io : Io) (read : Option Page) → (link v f).io ≡ io → (link v f).read ≡ read → by_input io read ≡ x → input_page io read (link v f).out ≡ Some page → ((x ≡ None) × ((s.pool.core.frame f).page ≡ page)) ⊎ ((k : paged.Kind) × (x ≡ Some k) × Overwrites k s f v page)
      of_io Input (Some p) is read kind due = inr (paged.overwrite_read p, sym kind, overwrites_read p is read (same_Some p page due))
      of_io Input None is read kind due = inl (sym kind, taken_is due)
      of_io Output read is same kind due = inl (sym kind, taken_is due)
      of_io Quiet read is same kind due = inl (sym kind, taken_is due)

      of_flag : (b : Bool) → (link v f).unapplied ≡ b → ((x ≡ None) × ((s.pool.core.frame f).page ≡ page)) ⊎ ((k : paged.Kind) × (x ≡ Some k) × Overwrites k s f v page)
      of_flag true is = inr (paged.overwrite_logged, sym e ∙ ap (λ (b : Bool). cond b (Some paged.overwrite_logged) (by_input (link v f).io (link v f).read)) is, overwrites_logged is)
      of_flag false is = of_io (link v f).io (link v f).read refl refl (sym (ap (λ (b : Bool). cond b (Some paged.overwrite_logged) (by_input (link v f).io (link v f).read)) is) ∙ e)
          (sym (ap (λ (b : Bool). cond b (link v f).image (input_page (link v f).io (link v f).read (link v f).out)) is) ∙ can.due)

module _ {L G : Type 0} (d : Devices L G) (o : Opening L G) where
  pub page_comes_back : (slots id f : ℕ) (me : Me (Value L G) View) (page : Page) → f < o.config.frames → me.0.emptied ≡ false → me.1 ≡ (slot_of o.config.frames (place.Page f), value.Page page) ∷ rest me.1 → MayReturnPage page (link me.0 f)
      → Allows (RuleHolds d o) slots id me (content_place f) (λ n. n) (page_came f (step slots (content_place f) 0 0 none) me)
  page_comes_back slots id f me page below live hand can t h deep there small = of_change (overwriting (link me.0 f)) refl (overwrites_or s id f me.0 page h.laws here inside can (overwriting (link me.0 f)) refl)
    where
      s : State
      s = h.state

      here : get_elem? s.pool.core.views id ≡ some me.0
      here = ap (λ (l : List View). get_elem? l id) (sym h.shows.views) ∙ there

      inside : f < s.pool.core.frames
      inside = let e = h.shows.fixed.frames in omega arith

      same : set t.words (content_place f) (get_or t.words (content_place f) 0) ≡ t.words
      same = set-get_or t.words (content_place f) 0

      -- the page comes back in a state whose step so far moved that page alone, into this one
      ContentComes : Option paged.Kind → Type 0
      ContentComes x = (w : View) × (a : table.Act (Value L G)) × table.Valid t.homes me.1 a × RuleHolds d o (stepped t (content_place f) (get_or t.words (content_place f) 0) id me.1 w a)
          × (table.carried_after me.1 a ≡ rest me.1) × ReturnsBy x f me.0 w (get_or t.words (content_place f) 0)

      home_held : (s' : State) (w : View) → Moves d o s s' id me.0 w (place.Page f) → Laws s' → page ≡ (s'.pool.core.frame f).page → RuleHolds d o (stepped t (content_place f) (get_or t.words (content_place f) 0) id me.1 w gives)
      home_held s' w m laws is = subst (λ (x : List (ℕ × Value L G)). RuleHolds d o (stepped t (content_place f) (get_or t.words (content_place f) 0) id x w gives)) (sym hand) record {
        state = s';
        shows = shows_back d o (set t.words (content_place f) (get_or t.words (content_place f) 0)) t s s' id me.0 w (place.Page f) (value.Page page) same h.shows here m below is;
        laws = laws;
      }

      of_change : (x : Option paged.Kind) → overwriting (link me.0 f) ≡ x → ((x ≡ None) × ((s.pool.core.frame f).page ≡ page)) ⊎ ((k : paged.Kind) × (x ≡ Some k) × Overwrites k s f me.0 page)
          → (w : View) × (a : table.Act (Value L G)) × table.Valid t.homes me.1 a × RuleHolds d o (stepped t (content_place f) (get_or t.words (content_place f) 0) id me.1 w a)
          × page_came f (step slots (content_place f) 0 0 none) me (get_or t.words (content_place f) 0) (w, table.carried_after me.1 a)
      of_change x e (inl (none_is, taken)) = let allowed : IsAllowed (pages paged.page_back) s f me.0 = (tt, record { out = can.out }) in let w : View = view_after (pages paged.page_back) s f me.0 in (
        w,
        gives,
        tt,
        home_held (state_after (pages paged.page_back) s id f me.0) w (page_moves d o paged.page_back s id f me.0 h.shows.fixed (words_none (s.pool.core.frame f))) (laws_kept (frame_step (pages paged.page_back) s id f me.0 here live inside allowed tt) h.laws)
            (sym (ap (λ (fr : Frame). fr.page) (put_here s.pool.core.frame f (frame_after (pages paged.page_back) s f)) ∙ taken)),
        (refl, subst (λ (y : Option paged.Kind). ReturnsBy y f me.0 w (get_or t.words (content_place f) 0)) (sym (e ∙ none_is)) (did_there d o t paged.page_back s id f me.0 refl h.shows h.laws here live below allowed tt)),
      )
      of_change x e (inr (k, kind, ow)) = (
        w,
        gives,
        tt,
        home_held s₂ w (moves_on d o s s₁ s₂ id me.0 u w (place.Page f) first (page_moves d o paged.page_back s₁ id f u first.fixed (words_none (s₁.pool.core.frame f)))) (laws_kept (frame_step (pages paged.page_back) s₁ id f u here₁ live inside allowed tt) laws₁)
            (sym (ap (λ (fr : Frame). fr.page) (put_here s₁.pool.core.frame f (frame_after (pages paged.page_back) s₁ f)) ∙ ap (λ (fr : Frame). fr.page) (put_here s.pool.core.frame f (frame_after (pages k) s f)) ∙ ow.page_is)),
        (refl, subst (λ (y : Option paged.Kind). ReturnsBy y f me.0 w (get_or t.words (content_place f) 0)) (sym (e ∙ kind)) (u, did_there d o t k s id f me.0 ow.word h.shows h.laws here live below ow.allowed ow.around, did₂)),
      )
        where
          s₁ : State
          s₁ = state_after (pages k) s id f me.0

          u : View
          u = view_after (pages k) s f me.0

          first : Moves d o s s₁ id me.0 u (place.Page f)
          first = page_moves d o k s id f me.0 h.shows.fixed ow.words

          laws₁ : Laws s₁
          laws₁ = laws_kept (frame_step (pages k) s id f me.0 here live inside ow.allowed ow.around) h.laws

          here₁ : get_elem? s₁.pool.core.views id ≡ some u
          here₁ = grid.set_here s.pool.core.views id me.0 u here

          link₁ : link u f ≡ link_after (pages k) s f me.0
          link₁ = link_there s id f me.0 (pages k) h.laws here live inside refl

          allowed : IsAllowed (pages paged.page_back) s₁ f u
          allowed = (tt, record { out = λ z. can.out (sym (ap (λ (l : Link). l.out) link₁ ∙ ow.out) ∙ z) })

          s₂ : State
          s₂ = state_after (pages paged.page_back) s₁ id f u

          w : View
          w = view_after (pages paged.page_back) s₁ f u

          did₂ : Did (pages paged.page_back) f u w (get_or t.words (content_place f) 0)
          did₂ = record {
            state = s₁;
            laws = laws₁;
            few = (let a = h.shows.fixed.backends in let b = h.shows.fixed.few_backends in omega arith);
            spread = h.shows.fixed.partition_of;
            seat = id;
            there = here₁;
            live = live;
            inside = inside;
            says = (let x = first.frames f in let z = h.shows.frame f below in (x.sharers ∙ z.sharers, x.exclusive ∙ z.exclusive, x.copying ∙ z.copying, z.small));
            allowed = allowed;
            around = tt;
            after = refl;
          }

  -- the same, where the page was put into the seat's hand by the exchange
  pub page_comes_from : (slots id f : ℕ) (me me' : Me (Value L G) View) (page : Page) → me' ≡ (me.0, (slot_of o.config.frames (place.Page f), value.Page page) ∷ rest me.1) → f < o.config.frames → me.0.emptied ≡ false → MayReturnPage page (link me.0 f)
      → Allows (RuleHolds d o) slots id me' (content_place f) (λ n. n) (page_came f (step slots (content_place f) 0 0 none) me')
  page_comes_from slots id f me me' page e below live can = subst (λ (x : Me (Value L G) View). Allows (RuleHolds d o) slots id x (content_place f) (λ n. n) (page_came f (step slots (content_place f) 0 0 none) x)) (sym e)
      (page_comes_back slots id f (me.0, (slot_of o.config.frames (place.Page f), value.Page page) ∷ rest me.1) page below live refl can)

-- nothing was written over a page that just went out
pub page_fresh : (f found : ℕ) (v w : View) → Did (pages paged.page_out) f v w found → (link w f).overwritten ≡ None
page_fresh f found v w d = ap (λ (l : Link). l.overwritten) (link_is (pages paged.page_out) f found v w d) ∙ of_over (link v f).overwritten refl
  where
    of_over : (x : Option Page) → (link v f).overwritten ≡ x → (link v f).overwritten ≡ None
    of_over None e = e
    of_over (Some q) e = absurd (((d.laws.invariant.pool.pages.cells d.seat v f d.there d.inside).overwritten q e).out d.allowed.1.page_home)

home_none : (io : Io) (home : Bool) → paged.home_after io None home ≡ home
home_none Quiet home = refl
home_none Output home = refl
home_none Input home = refl

home_quiet : (io : Io) (q : Page) (home : Bool) → io ≢ Input → paged.home_after io (Some q) home ≡ home
home_quiet Quiet q home n = refl
home_quiet Output q home n = refl
home_quiet Input q home n = absurd (n refl)

-- the link after a return, where the page is this one
back_link : (f found : ℕ) (v w : View) (page : Page) (d : Did (pages paged.page_back) f v w found) → (d.state.pool.core.frame f).page ≡ page
    → link w f ≡ record (link v f) { out = None; overwritten = None; copied = paged.copied_after (link v f).content (link v f).unapplied page (link v f).copied; read_is_home = paged.home_after (link v f).io (link v f).overwritten (link v f).read_is_home }
back_link f found v w page d same = link_is (pages paged.page_back) f found v w d ∙ (λ i. record (link v f) { out = None; overwritten = None; copied = paged.copied_after (link v f).content (link v f).unapplied (same i) (link v f).copied; read_is_home = paged.home_after (link v f).io (link v f).overwritten (link v f).read_is_home })

-- a page that was overwritten is the frame's
over_is : (f found : ℕ) (v w : View) (q : Page) (d : Did (pages paged.page_back) f v w found) → (link v f).overwritten ≡ Some q → (d.state.pool.core.frame f).page ≡ q
over_is f found v w q d e = ((d.laws.invariant.pool.pages.cells d.seat v f d.there d.inside).overwritten q e).page

-- The link after the page came back
module _ (f found : ℕ) (v w : View) (page : Page) (can : MayReturnPage page (link v f)) where
  abbrev l : Link
  l = link v f

  -- where it is as it was taken
  back_taken : l.unapplied ≡ false → l.out ≡ Some page → Did (pages paged.page_back) f v w found → link w f ≡ record l { out = None; copied = paged.copied_after l.content false page l.copied }
  back_taken flag out d = back_link f found v w page d ((d.laws.invariant.pool.pages.cells d.seat v f d.there d.inside).taken page out can.once)
      ∙ (λ i. record l { out = None; overwritten = sym can.once i; copied = paged.copied_after l.content (flag i) page l.copied; read_is_home = (ap (λ (x : Option Page). paged.home_after l.io x l.read_is_home) can.once ∙ home_none l.io l.read_is_home) i })

  -- where it is the one that the lane gave
  back_read : (p : Page) → p ≡ page → l.unapplied ≡ false → l.io ≡ Input → ReturnsBy (Some (paged.overwrite_read p)) f v w found → link w f ≡ record l { out = None; copied = paged.copied_after l.content false page l.copied; read_is_home = true }
  back_read p same flag io (u, d, e) = let lu = link_is (pages (paged.overwrite_read p)) f found v u d in
      back_link f found u w page e (over_is f found u w p e (ap (λ (x : Link). x.overwritten) lu) ∙ same)
      ∙ ap (λ (x : Link). record x { out = None; overwritten = None; copied = paged.copied_after x.content x.unapplied page x.copied; read_is_home = paged.home_after x.io x.overwritten x.read_is_home }) lu
      ∙ (λ i. record l { out = None; overwritten = sym can.once i; copied = paged.copied_after l.content (flag i) page l.copied; read_is_home = paged.home_after (io i) (Some p) l.read_is_home })

  -- where it is the image of the entry
  back_logged : l.unapplied ≡ true → l.image ≡ Some page → ReturnsBy (Some paged.overwrite_logged) f v w found → link w f ≡ record l { out = None; unapplied = false; image = None; copied = paged.copied_after l.content false page l.copied }
  back_logged flag image (u, d, e) = let lu = link_is (pages paged.overwrite_logged) f found v u d in let law = d.laws.invariant.pool.pages.cells d.seat v f d.there d.inside in
      let over : (link u f).overwritten ≡ Some page = ap (λ (x : Link). x.overwritten) lu ∙ ap (λ (x : Option Page). Some (paged.image_over x (d.state.pool.core.frame f).page)) ((law.unapplied flag).image page image) in
      let busy : l.io ≢ Input = (λ io. let a = (law.input io).1 in let b = (law.content (λ none. let no : Exclusive ≡ Unlocked = sym (law.unapplied flag).right ∙ none in absurd (cc))).1 in let no : true ≡ false = sym b ∙ a in absurd (cc)) in
      back_link f found u w page e (over_is f found u w page e over)
      ∙ (λ i. record (link u f) { out = None; overwritten = None; copied = paged.copied_after (link u f).content (link u f).unapplied page (link u f).copied; read_is_home = paged.home_after (link u f).io (over i) (link u f).read_is_home })
      ∙ ap (λ (x : Link). record x { out = None; overwritten = None; copied = paged.copied_after x.content x.unapplied page x.copied; read_is_home = paged.home_after x.io (Some page) x.read_is_home }) lu
      ∙ (λ i. record l { out = None; overwritten = sym can.once i; unapplied = false; image = None; copied = paged.copied_after l.content false page l.copied; read_is_home = home_quiet l.io page l.read_is_home busy i })

  pub back_is : ReturnsBy (overwriting l) f v w found → link w f ≡ returned_link page l
  back_is d = of_flag l.unapplied refl
    where
      of_io : (io : Io) (read : Option Page) → l.io ≡ io → l.read ≡ read → l.unapplied ≡ false → ReturnsBy (by_input io read) f v w found → input_page io read l.out ≡ Some page → link w f ≡ read_home io read (record l { out = None; copied = paged.copied_after l.content false page l.copied })
      of_io Input (Some p) is same flag did due = back_read p (let e : Some p ≡ Some page = due in cc) flag is did
      of_io Input None is same flag did due = back_taken flag due did
      of_io Output read is same flag did due = back_taken flag due did
      of_io Quiet read is same flag did due = back_taken flag due did

      of_flag : (b : Bool) → l.unapplied ≡ b → link w f ≡ returned_link page l
      of_flag true is = back_logged is (sym (ap (λ (b : Bool). cond b l.image (input_page l.io l.read l.out)) is) ∙ can.due) (subst (λ (b : Bool). ReturnsBy (cond b (Some paged.overwrite_logged) (by_input l.io l.read)) f v w found) is d)
          ∙ sym (ap (λ (b : Bool). cond b (applied_link page (record l { out = None })) (read_home l.io l.read (record l { out = None; copied = paged.copied_after l.content false page l.copied }))) is)
      of_flag false is = of_io l.io l.read refl refl is (subst (λ (b : Bool). ReturnsBy (cond b (Some paged.overwrite_logged) (by_input l.io l.read)) f v w found) is d) (sym (ap (λ (b : Bool). cond b l.image (input_page l.io l.read l.out)) is) ∙ can.due)
          ∙ sym (ap (λ (b : Bool). cond b (applied_link page (record l { out = None })) (read_home l.io l.read (record l { out = None; copied = paged.copied_after l.content false page l.copied }))) is)

-- nothing else changes, if the kind that overwrites it changes nothing else
overwritten_touches : (k : paged.Kind)
    → ((s : State) (f : ℕ) (v : View) → named_of (view_after (pages k) s f v) ≡ named_of v)
    → (f found : ℕ) (v w : View) → ReturnsBy (Some k) f v w found → Touches f v w
overwritten_touches k still f found v w (u, d, e) = touches_on f v u w
    (touches (pages k) still f found v u d)
    (touches (pages paged.page_back) (λ s g x. refl) f found u w e)

back_by : (unapplied : Bool) (io : Io) (read : Option Page) (f found : ℕ) (v w : View)
    → ReturnsBy (if unapplied then Some paged.overwrite_logged else by_input io read) f v w found
    → Touches f v w
back_by true io read f found v w r =
    overwritten_touches paged.overwrite_logged (λ s g x. refl) f found v w r
back_by false Input (Some p) f found v w r =
    overwritten_touches (paged.overwrite_read p) (λ s g x. refl) f found v w r
back_by false Input None f found v w r =
    touches (pages paged.page_back) (λ s g x. refl) f found v w r
back_by false Output read f found v w r =
    touches (pages paged.page_back) (λ s g x. refl) f found v w r
back_by false Quiet read f found v w r =
    touches (pages paged.page_back) (λ s g x. refl) f found v w r

pub back_touches : (l : Link) (f found : ℕ) (v w : View) → ReturnsBy (overwriting l) f v w found
    → Touches f v w
back_touches l f found v w r = back_by l.unapplied l.io l.read f found v w r
