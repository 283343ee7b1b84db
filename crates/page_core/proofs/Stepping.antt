-- Each step keeps the law, and so does each list of steps.
use Rattle.std.proofs.Common.{◌≡◌, ◌≢◌, ℕ, ◌+◌, ◌<◌, ◌≤◌, Bool, true, false, cond, nat_lt, List, [], ◌∷◌, ◌++◌, Option, Some, None, length, set, length-set, get_or-set_same, get_or-set_other, sym, refl, ap, ◌∙◌, subst, ⊎_elim, arith}
use Rattle.std.proofs.lemmas.Bool.{false≢true, false_from_ne_true, le-ltb, lt-ltb}
use mathlib.Core.Logic.{dite}
use mathlib.Core.Option.{some}
use native.Mathlib.Decide.{ℕ_discrete}
use lib.ListN.{get_elem?}
use Rattle.pin_core.specs.declared.view.Content.TheVariants.{Exclusive}
use Rattle.pin_core.specs.declared.view.Io.TheVariants.{Quiet, Input}
use Rattle.pin_core.specs.declared.view.Link.{Link}
use Rattle.pin_core.specs.declared.view.View.{View}
use Rattle.pin_core.specs.State.{Frame, Page, no_tag, tag_fork, tag_block, is_block, is_cut, idle, link, hold, local, new_view, emptied_view, joined_view}
use Rattle.pin_core.specs.State as below
use Rattle.pin_core.specs.Tallies.{frame_shape}
use Rattle.pin_core.specs.Tallies as pins_tallies
use Rattle.pin_core.specs.Sizes.{SizeKind, load_size, share_size, exclude_size, unshare_size, unexclude_size, pass_frame, store_size, enter_extension, enter_cut, SizesLaw, SizeAllowed, CanEnterExtension, CanEnterCut, extended_link, view_sized, state_sized}
use Rattle.pin_core.specs.Invariant as pins
use Rattle.pin_core.specs.Kinds as pin_kinds
use Rattle.pin_core.specs.Turns.{view_turned}
use Rattle.pin_core.specs.Steps as pin_steps
use Rattle.pin_core.specs.Steps.{HoldsNothingAt}
use Rattle.pin_core.proofs.Views.{link_new}
use Rattle.pin_core.proofs.Stepping as pin_stepping
use Rattle.pin_core.proofs.Stepping.{tags_stay, local_keeps, sized_links, sized_alike}
use Rattle.pin_core.proofs.Sizing.{rights_differ, excludes_others, new_block, grown_block, here_logged, other_logged, logged_kept, below_cut}
use Rattle.pin_core.proofs.SizeSteps.{frames_keep, step_keeps_law}
use Rattle.pin_core.proofs.SizeSchedules.{no_exclusive}
use Rattle.page_core.specs.State.{Block, State, block_of, zero_page}
use Rattle.page_core.specs.Tallies.{Tally, pin, sharers, applied_locks, unapplied_locks, copies, works, outs, waits_as, weigh, page_shape}
use Rattle.page_core.specs.Invariant.{PageFrame, PageLink, page_part, pin_part, WaitsOnce, WaitsLaw, NotedPage, NotedPages, PageInvariant}
use Rattle.page_core.specs.Kinds.{Kind, make_entry, start_input, set_waiter, Allowed, frame_after, block_after, link_after, view_after}
use Rattle.page_core.specs.Steps.{AllowedAround, MayMakeEntry, MayStartInput, MayWait, Event, logged_after, logged_sized, logged_by, state_after, Step, cores, touches, Run, rests, goes}
use Rattle.page_core.proofs.KeepingPages.{known}
use Rattle.page_core.proofs.Cases.{pages_kept, pins_kept, tag_kept, noted_kept, inside_kept, entry_or, wait_kept, wait_below, block_kept, below_kept}
use Rattle.page_core.proofs.Waits.{relinks_less, waits_less, waits_at, waits_put, waits_fewer, waits_set, waits_split, waits_emptied}
use Rattle.page_core.proofs.Noting.{noted_own, noted_other, input_was, noted_below, read_below, io_below, noted_was, noted_new}
use Rattle.grid.specs.Shape.{Part, Grid, put, tallies}
use Rattle.grid.proofs.Lists.{at_set, at_end, set_else, put_at, put_else, put_same}
use Rattle.grid.proofs.Grids.{Keeps, Relinks, both_grids, touch, sweep, steady, steady_alike, reblock, grows}
use Rattle.grid.proofs.Sums.{terms_le}

-- the law of pins, headers and tags, in this crate's grid and in its own
pub to_pages : (n : ℕ) (frame : ℕ → Frame) (block : ℕ → Block) (views : List View) → Grid frame_shape pins.pin_part n frame (λ _. tt) views → Grid page_shape pin_part n frame block views
to_pages n frame block views g = record { columns = g.columns; cells = g.cells }

pub to_pins : (n : ℕ) (frame : ℕ → Frame) (block : ℕ → Block) (views : List View) → Grid page_shape pin_part n frame block views → Grid frame_shape pins.pin_part n frame (λ _. tt) views
to_pins n frame block views g = record { columns = g.columns; cells = g.cells }

-- both laws of a state
pub knows : (s : State) → PageInvariant s → Grid page_shape known s.core.frames s.core.frame (block_of s.logged) s.core.views
knows s h = both_grids (to_pages s.core.frames s.core.frame (block_of s.logged) s.core.views h.core.grid) h.pages

-- a block that a view notes isn't there yet, and has no page
pub noted_outside : (s : State) (h : PageInvariant s) (i f : ℕ) (v : View) → get_elem? s.core.views i ≡ some v → f < s.core.frames → (link v f).noted ≡ true → is_block s.core (s.core.frame f).tag ≡ false
noted_outside s h i f v there inside noted = let at = (h.sizes.noted i f v there inside noted).at in le-ltb (tag_block (s.core.frame f).tag) (s.core.size (tag_fork (s.core.frame f).tag)).logged (omega (arith, at))

pub noted_gone : (s : State) (h : PageInvariant s) (i f : ℕ) (v : View) → get_elem? s.core.views i ≡ some v → f < s.core.frames → (link v f).noted ≡ true → s.logged (s.core.frame f).tag ≡ None
noted_gone s h i f v there inside noted = h.gone (s.core.frame f).tag (noted_outside s h i f v there inside noted)

-- one view at most notes a frame
pub one_noter : (s : State) (h : PageInvariant s) (i j f : ℕ) (v u : View) → j ≢ i → get_elem? s.core.views i ≡ some v → get_elem? s.core.views j ≡ some u → f < s.core.frames → (link v f).noted ≡ true → (link u f).noted ≡ true → ⊥
one_noter s h i j f v u other there here inside a b = let x = h.sizes.noted i f v there inside a in let y = h.sizes.noted j f u here inside b in
    rights_differ (sym (excludes_others s.core h.sizes i (tag_fork (s.core.frame f).tag) v there j u other here x.may.right) ∙ y.may.right)

-- One view changes, with the frames: what a step has to show of the frames that are noted
pub noted_change : (s : State) → NotedPages s → (i : ℕ) (v w : View) (frame' : ℕ → Frame) (part' : ℕ → below.Partition) (size' : ℕ → below.SizeWord) (logged' : ℕ → Option Page) → get_elem? s.core.views i ≡ some v
    → ((f : ℕ) → f < s.core.frames → (link w f).noted ≡ true → NotedPage (frame' f) (link w f) × ((j : ℕ) (u : View) → j ≢ i → get_elem? s.core.views j ≡ some u → (link u f).io ≢ Input))
    → ((j f : ℕ) (u : View) → j ≢ i → get_elem? s.core.views j ≡ some u → f < s.core.frames → (link u f).noted ≡ true → NotedPage (frame' f) (link u f) × ((link w f).io ≢ Input))
    → NotedPages (record { core = record s.core { frame = frame'; partition = part'; size = size'; views = set s.core.views i w }; logged = logged' })
noted_change s h i v w frame' part' size' logged' there own others j f u here below e = ⊎_elim
    (λ (t : (j ≡ i) × (w ≡ u)). let x = own f below (ap (λ (y : View). (link y f).noted) t.1 ∙ e) in record {
      page = subst (λ (y : View). NotedPage (frame' f) (link y f)) t.1 x.0;
      alone = λ k y other at. ⊎_elim (λ (z : (k ≡ i) × (w ≡ y)). absurd (other (z.0 ∙ sym t.0))) (λ (z : (k ≢ i) × (get_elem? s.core.views k ≡ some y)). x.1 k y z.0 z.1) (at_set s.core.views i k w y at);
    })
    (λ (t : (j ≢ i) × (get_elem? s.core.views j ≡ some u)). let x = others j f u t.0 t.1 below e in record {
      page = x.0;
      alone = λ k y other at. ⊎_elim (λ (z : (k ≡ i) × (w ≡ y)). subst (λ (q : View). (link q f).io ≢ Input) z.1 x.1) (λ (z : (k ≢ i) × (get_elem? s.core.views k ≡ some y)). (h j f u t.1 below e).alone k y other z.1) (at_set s.core.views i k w y at);
    }) (at_set s.core.views i j w u here)

-- the law of new blocks stays, if the view notes no more, and has no more input rights
pub noted_less : (s : State) → NotedPages s → (i : ℕ) (v w : View) (part' : ℕ → below.Partition) (size' : ℕ → below.SizeWord) (logged' : ℕ → Option Page) → get_elem? s.core.views i ≡ some v
    → ((f : ℕ) → (link w f).noted ≡ true → ((link v f).noted ≡ true) × ((link w f).read ≡ (link v f).read)) → ((f : ℕ) → (link w f).io ≡ Input → (link v f).io ≡ Input)
    → NotedPages (record { core = record s.core { partition = part'; size = size'; views = set s.core.views i w }; logged = logged' })
noted_less s h i v w part' size' logged' there noteds inputs = noted_change s h i v w s.core.frame part' size' logged' there
    (λ f below e. let x = noteds f e in let law = h i f v there below x.0 in (record { valid = law.page.valid; read = λ p r. law.page.read p (sym x.1 ∙ r) }, law.alone))
    (λ j f u other here below e. let law = h j f u here below e in (law.page, λ x. law.alone i v (λ y. other (sym y)) there (inputs f x)))

module _ (s : State) (h : PageInvariant s) (i f : ℕ) (v : View) (there : get_elem? s.core.views i ≡ some v) (live : v.emptied ≡ false) (inside : f < s.core.frames) where
  abbrev fr : Frame
  fr = s.core.frame f

  abbrev b : Block
  b = block_of s.logged fr.tag

  abbrev l : Link
  l = link v f

  wide : f < length v.links
  wide = subst (λ (n : ℕ). f < n) (sym (h.core.views.wide i v there live).0) inside

  link_here : PageLink b fr l
  link_here = h.pages.cells i v f there inside

  -- a step of one of this crate's kinds
  module _ (k : Kind) (a : Allowed k b fr l) where
    abbrev pub w : View
    w = view_after k f b fr l v

    abbrev logged' : ℕ → Option Page
    logged' = logged_after k s.logged fr.tag

    pub relinked : Relinks page_shape v w f (link_after k b fr l)
    relinked = record { own = refl; here = get_or-set_same v.links f (link_after k b fr l) idle wide; else = λ g other. get_or-set_other v.links f g (link_after k b fr l) idle other }

    named : l.content ≡ Exclusive → fr.tag ≢ no_tag
    named e = (link_here.content (λ u. absurd (cc))).2.named

    elsewhere : (g : ℕ) → g < s.core.frames → g ≢ f → block_of logged' (s.core.frame g).tag ≡ block_of s.logged (s.core.frame g).tag
    elsewhere g below other = ap (λ (x : Option Page). block_of (λ _. x) 0) (⊎_elim
        (λ (e : block_after k b ≡ b). put_same s.logged fr.tag (block_after k b).logged (s.core.frame g).tag (ap (λ (x : Block). x.logged) e))
        (λ (e : l.content ≡ Exclusive). put_else s.logged fr.tag (block_after k b).logged (s.core.frame g).tag (λ same. other (sym (h.core.apart f g inside below (named e) (sym same)))))
        (block_kept k b fr l a))

    block_here : block_of logged' (frame_after k b fr).tag ≡ block_after k b
    block_here = ap (λ (x : Option Page). block_of (λ _. x) 0) (put_at s.logged fr.tag (block_after k b).logged (frame_after k b fr).tag (tag_kept k b fr))

    touched : (p : Part page_shape) → Grid page_shape p s.core.frames s.core.frame (block_of s.logged) s.core.views → Keeps page_shape known p b (block_after k b) tt tt fr l (frame_after k b fr) (link_after k b fr l)
        → Grid page_shape p s.core.frames (put s.core.frame f (frame_after k b fr)) (block_of logged') (set s.core.views i w)
    touched p grid keeps = touch page_shape known p s.core.frames s.core.frame (block_of s.logged) (block_of logged') s.core.views i f v w (frame_after k b fr) (link_after k b fr l) (knows s h) grid there inside relinked elsewhere
        (subst (λ (x : Block). Keeps page_shape known p b x tt tt fr l (frame_after k b fr) (link_after k b fr l)) (sym block_here) keeps)

    -- where the view waits after the step
    waits_here : AllowedAround k s v f → WaitsOnce w
    waits_here around = ⊎_elim begins goes_on (wait_kept k b fr l)
      where
        begins : ((number : ℕ) × (k ≡ set_waiter number)) → WaitsOnce w
        begins x = let may : MayWait x.0 v = subst (λ (y : Kind). AllowedAround y s v f) x.1 around in
            waits_at w f x.0 may.own (ap (λ (y : Link). y.waits) relinked.here ∙ ap (λ (y : Kind). (link_after y b fr l).waits) x.1) (λ g other. ap (λ (y : Link). y.waits) (relinked.else g other) ∙ may.nowhere g)

        goes_on : (link_after k b fr l).waits ≡ l.waits → WaitsOnce w
        goes_on e = waits_less v w (relinks_less v w f refl relinked.else (λ number x. sym e ∙ sym (ap (λ (y : Link). y.waits) relinked.here) ∙ x)) (h.waits i v there)

    noted_mine : (g : ℕ) → g < s.core.frames → (link w g).noted ≡ true → NotedPage (put s.core.frame f (frame_after k b fr) g) (link w g) × ((j : ℕ) (u : View) → j ≢ i → get_elem? s.core.views j ≡ some u → (link u g).io ≢ Input)
    noted_mine g below e = dite (ℕ_discrete g f)
        (λ same. let was : l.noted ≡ true = sym (noted_kept k b fr l) ∙ sym (ap (λ (x : Link). x.noted) relinked.here) ∙ ap (λ (z : ℕ). (link w z).noted) (sym same) ∙ e in let law = h.noted i f v there inside was in (
          subst (λ (z : Frame × Link). NotedPage z.0 z.1) (λ q. (sym (put_at s.core.frame f (frame_after k b fr) g same) q, sym (ap (λ (z : ℕ). link w z) same ∙ relinked.here) q))
              (noted_own k b fr l a link_here (noted_gone s h i f v there inside was) was law.page),
          subst (λ (z : ℕ). (j : ℕ) (u : View) → j ≢ i → get_elem? s.core.views j ≡ some u → (link u z).io ≢ Input) (sym same) law.alone,
        ))
        (λ o. let law = h.noted i g v there below (ap (λ (x : Link). x.noted) (sym (relinked.else g o)) ∙ e) in
        (subst (λ (z : Frame × Link). NotedPage z.0 z.1) (λ q. (sym (put_else s.core.frame f (frame_after k b fr) g o) q, sym (relinked.else g o) q)) law.page, law.alone))

    noted_others : AllowedAround k s v f → (j g : ℕ) (u : View) → j ≢ i → get_elem? s.core.views j ≡ some u → g < s.core.frames → (link u g).noted ≡ true → NotedPage (put s.core.frame f (frame_after k b fr) g) (link u g) × ((link w g).io ≢ Input)
    noted_others around j g u other here below e = dite (ℕ_discrete g f)
        (λ same. let noted_f : (link u f).noted ≡ true = ap (λ (z : ℕ). (link u z).noted) (sym same) ∙ e in let law = h.noted j f u here inside noted_f in let quiet = law.alone i v (λ x. other (sym x)) there in (
          subst (λ (z : Frame × Link). NotedPage z.0 z.1) (λ q. (sym (put_at s.core.frame f (frame_after k b fr) g same) q, ap (λ (z : ℕ). link u z) (sym same) q))
              (noted_other k b fr l (link u f) a link_here (noted_gone s h j f u here inside noted_f) quiet law.page),
          λ x. ⊎_elim (λ (y : l.io ≡ Input). quiet y) (λ (y : k ≡ start_input). no_input (subst (λ (z : Kind). AllowedAround z s v f) y around) j u other here noted_f)
              (input_was k b fr l (ap (λ (y : Link). y.io) (sym relinked.here) ∙ ap (λ (z : ℕ). (link w z).io) (sym same) ∙ x)),
        ))
        (λ o. let law = h.noted j g u here below e in
        (subst (λ (z : Frame). NotedPage z (link u g)) (sym (put_else s.core.frame f (frame_after k b fr) g o)) law.page, λ x. law.alone i v (λ y. other (sym y)) there (ap (λ (y : Link). y.io) (sym (relinked.else g o)) ∙ x)))
      where
        -- no other view starts input, if one notes the frame
        no_input : MayStartInput s v f → (j : ℕ) (u : View) → j ≢ i → get_elem? s.core.views j ≡ some u → (link u f).noted ≡ true → ⊥
        no_input may j u other here noted = by_note l.noted refl
          where
            by_note : (y : Bool) → l.noted ≡ y → ⊥
            by_note true e = one_noter s h i j f v u other there here inside e noted
            by_note false e = false≢true (sym (noted_outside s h j f u here inside noted) ∙ may.block e)

    gone_after : AllowedAround k s v f → (tag : ℕ) → is_block s.core tag ≡ false → logged' tag ≡ None
    gone_after around tag e = ⊎_elim
        (λ (same : block_after k b ≡ b). put_same s.logged fr.tag (block_after k b).logged tag (ap (λ (x : Block). x.logged) same) ∙ h.gone tag e)
        (λ (x : (p : Page) × (k ≡ make_entry p)). let may : MayMakeEntry s v f = subst (λ (y : Kind). AllowedAround y s v f) x.1 around in
        put_else s.logged fr.tag (block_after k b).logged tag (λ same. false≢true (sym e ∙ ap (λ (z : ℕ). is_block s.core z) same ∙ may.block)) ∙ h.gone tag e) (entry_or k b)

    pub kind_step_keeps : AllowedAround k s v f → PageInvariant (state_after k s i f v)
    kind_step_keeps around = record {
      core = local_keeps s.core i f v w (frame_after k b fr) h.core there (record { emptied = refl; number = refl; next = refl; links = length-set v.links f (link_after k b fr l); partitions = refl }) refl refl (tag_kept k b fr)
          (to_pins s.core.frames (put s.core.frame f (frame_after k b fr)) (block_of logged') (set s.core.views i w) (touched pin_part (to_pages s.core.frames s.core.frame (block_of s.logged) s.core.views h.core.grid) (pins_kept k b fr l a)));
      sizes = frames_keep s.core h.sizes i v w (put s.core.frame f (frame_after k b fr)) s.core.partition there refl (tags_stay s.core.frame f (frame_after k b fr) (tag_kept k b fr))
          (λ g _. dite (ℕ_discrete g f) (λ e. ap (λ (z : ℕ). (link w z).noted) e ∙ ap (λ (x : Link). x.noted) relinked.here ∙ noted_kept k b fr l ∙ ap (λ (z : ℕ). (link v z).noted) (sym e)) (λ o. ap (λ (x : Link). x.noted) (relinked.else g o)))
          (λ g _ x. dite (ℕ_discrete g f) (λ e. ap (λ (z : ℕ). (link v z).inside) e ∙ sym (inside_kept k b fr l) ∙ sym (ap (λ (y : Link). y.inside) relinked.here) ∙ ap (λ (z : ℕ). (link w z).inside) (sym e) ∙ x) (λ o. ap (λ (y : Link). y.inside) (sym (relinked.else g o)) ∙ x));
      pages = touched page_part h.pages (pages_kept k b fr l a);
      waits = waits_put s.core.views h.waits i w (waits_here around);
      noted = noted_change s h.noted i v w (put s.core.frame f (frame_after k b fr)) s.core.partition s.core.size logged' there noted_mine (noted_others around);
      gone = gone_after around;
    }

  -- a step of a kind of `pin_core`
  below_step : (k : pin_kinds.Kind) → pin_kinds.Allowed k fr l → Grid page_shape page_part s.core.frames (put s.core.frame f (pin_kinds.frame_after k fr)) (block_of s.logged) (set s.core.views i (pin_stepping.after k s.core f v))
  below_step k a = touch page_shape known page_part s.core.frames s.core.frame (block_of s.logged) (block_of s.logged) s.core.views i f v (pin_stepping.after k s.core f v) (pin_kinds.frame_after k fr) (pin_kinds.link_after k fr l) (knows s h) h.pages there inside
      (record { own = refl; here = get_or-set_same v.links f (pin_kinds.link_after k fr l) idle wide; else = λ g other. get_or-set_other v.links f g (pin_kinds.link_after k fr l) idle other }) (λ g below other. refl)
      (below_kept k b (block_of s.logged (pin_kinds.frame_after k fr).tag) fr l a (λ e. ap (block_of s.logged) e))

none : (k : Tally) → weigh k idle ≡ 0
none (pin k) = pin_stepping.idle_none k
none sharers = refl
none applied_locks = refl
none unapplied_locks = refl
none copies = refl
none works = refl
none outs = refl
none (waits_as number) = refl

pub idle_link : (b : Block) (fr : Frame) → PageLink b fr idle
idle_link b fr = grind arith

pub new_none : (number base n p m f : ℕ) (k : Tally) → weigh k (link (new_view number base n p m) f) ≡ 0
new_none number base n p m f k = ap (weigh k) (link_new n p m number base f) ∙ none k

pub new_link : (b : Block) (number base n p m f : ℕ) (fr : Frame) → PageLink b fr (link (new_view number base n p m) f)
new_link b number base n p m f fr = subst (PageLink b fr) (sym (link_new n p m number base f)) (idle_link b fr)

-- a view that has nothing at a frame may be forgotten there
forgets : (b : Block) (fr : Frame) (l : Link) → HoldsNothingAt l → Keeps page_shape known page_part b b tt tt fr l fr idle
forgets b fr l a = record {
  column = λ t t' q c sums le _. grind (arith, q, c, a, sums sharers, sums applied_locks, sums unapplied_locks, sums copies, sums works, sums outs, sums (waits_as fr.word.waiter));
  cell = λ t q le c. idle_link b fr;
  others = λ t n m q c le d. d.1;
}

-- a step at the size of a fork leaves what the views' links weigh
pub sized_weight : (s : State) (h : PageInvariant s) (i fork : ℕ) (v : View) (there : get_elem? s.core.views i ≡ some v) (live : v.emptied ≡ false) (k : SizeKind) → SizeAllowed k s.core v fork → (g : ℕ) (t : Tally) → weigh t (link (view_sized k fork s.core v) g) ≡ weigh t (link v g)
sized_weight s h i fork v there live k a g (pin t) = (sized_alike s.core h.core i fork v there live k a g).weighs t
sized_weight s h i fork v there live k a g sharers = sized_links s.core h.core i fork v there live (λ l m. weigh sharers m ≡ weigh sharers l) k a (λ l. refl) (λ l known. refl) (λ f end b e. refl) g
sized_weight s h i fork v there live k a g applied_locks = sized_links s.core h.core i fork v there live (λ l m. weigh applied_locks m ≡ weigh applied_locks l) k a (λ l. refl) (λ l known. refl) (λ f end b e. refl) g
sized_weight s h i fork v there live k a g unapplied_locks = sized_links s.core h.core i fork v there live (λ l m. weigh unapplied_locks m ≡ weigh unapplied_locks l) k a (λ l. refl) (λ l known. refl) (λ f end b e. refl) g
sized_weight s h i fork v there live k a g copies = sized_links s.core h.core i fork v there live (λ l m. weigh copies m ≡ weigh copies l) k a (λ l. refl) (λ l known. refl) (λ f end b e. refl) g
sized_weight s h i fork v there live k a g works = sized_links s.core h.core i fork v there live (λ l m. weigh works m ≡ weigh works l) k a (λ l. refl) (λ l known. refl) (λ f end b e. refl) g
sized_weight s h i fork v there live k a g outs = sized_links s.core h.core i fork v there live (λ l m. weigh outs m ≡ weigh outs l) k a (λ l. refl) (λ l known. refl) (λ f end b e. refl) g
sized_weight s h i fork v there live k a g (waits_as n) = sized_links s.core h.core i fork v there live (λ l m. weigh (waits_as n) m ≡ weigh (waits_as n) l) k a (λ l. refl) (λ l known. refl) (λ f end b e. refl) g

-- and what holds of them
seen_link : (b : Block) (fr : Frame) (l : Link) → PageLink b fr l → PageLink b fr (record l { inside = true })
seen_link b fr l h = grind (arith, h)

grown_link : (b : Block) (fr : Frame) (l : Link) → PageLink b fr l → PageLink b fr (extended_link l)
grown_link b fr l h = grind (arith, h)

-- The block that a fork grows by has a page of zeros, which its frame has
grown_frame : (b : Block) (fr : Frame) (t : Tally → ℕ) → fr.page ≡ zero_page → PageFrame b fr t → PageFrame (record { logged = Some zero_page }) fr t
grown_frame b fr t e h = grind (arith, e, h)

grown_cell : (b : Block) (fr : Frame) (l : Link) → b.logged ≡ None → fr.page ≡ zero_page → fr.word.valid ≡ true → PageLink b fr l → PageLink (record { logged = Some zero_page }) fr l
grown_cell b fr l none e valid h = grind (arith, none, e, valid, h)

-- if a frame has no tag, nothing is said of its block
bare_frame : (b b' : Block) (fr : Frame) (t : Tally → ℕ) → fr.tag ≡ no_tag → PageFrame b fr t → PageFrame b' fr t
bare_frame b b' fr t e h = grind (arith, e, h)

bare_cell : (b b' : Block) (fr : Frame) (l : Link) → fr.tag ≡ no_tag → PageLink b fr l → PageLink b' fr l
bare_cell b b' fr l e h = grind (arith, e, h)

-- Backend i, whose view is v, makes a step at the size of a fork
module _ (s : State) (h : PageInvariant s) (i fork : ℕ) (v : View) (there : get_elem? s.core.views i ≡ some v) (live : v.emptied ≡ false) where
  abbrev sized_view : SizeKind → View
  sized_view k = view_sized k fork s.core v

  same_blocks : (k : SizeKind) → SizeAllowed k s.core v fork → Grid page_shape page_part s.core.frames s.core.frame (block_of s.logged) (set s.core.views i (sized_view k))
  same_blocks k a = steady_alike page_shape page_part s.core.frames s.core.frame (block_of s.logged) s.core.views h.pages i v (sized_view k) there refl (sized_weight s h i fork v there live k a)
      (λ g b c o. sized_links s.core h.core i fork v there live (λ l m. PageLink b c l → PageLink b c m) k a (λ l x. x) (λ l known x. seen_link b c l x) (λ f end y e x. grown_link b c (link v f) x) g)

  grown_blocks : (f end : ℕ) → CanEnterExtension f s.core v fork → Grid page_shape page_part s.core.frames s.core.frame (block_of (logged_sized (enter_extension f end) fork s)) (set s.core.views i (sized_view (enter_extension f end)))
  grown_blocks f end a = let law = h.noted i f v there a.inside a.noted in let zero = law.page.valid a.valid in let tag = (s.core.frame f).tag in
      let here : (g : ℕ) → g ≡ f → block_of (put s.logged tag (Some zero_page)) (s.core.frame g).tag ≡ record { logged = Some zero_page } = (λ g e. ap (λ (o : Option Page). block_of (λ _. o) 0) (put_at s.logged tag (Some zero_page) (s.core.frame g).tag (ap (λ (z : ℕ). (s.core.frame z).tag) e))) in
      let else : (g : ℕ) → g < s.core.frames → g ≢ f → block_of (put s.logged tag (Some zero_page)) (s.core.frame g).tag ≡ block_of s.logged (s.core.frame g).tag
      = (λ g below o. ap (λ (o : Option Page). block_of (λ _. o) 0) (put_else s.logged tag (Some zero_page) (s.core.frame g).tag (λ same. o (sym (h.core.apart f g a.inside below ((h.core.grid.cells i v f there a.inside).noted a.noted).named (sym same)))))) in
      reblock page_shape page_part s.core.frames s.core.frame (block_of s.logged) (set s.core.views i (sized_view (enter_extension f end))) (same_blocks (enter_extension f end) a) (block_of (put s.logged tag (Some zero_page)))
      (λ g below t x. dite (ℕ_discrete g f)
      (λ e. subst (λ (b : Block). PageFrame b (s.core.frame g) t) (sym (here g e)) (grown_frame (block_of s.logged (s.core.frame g).tag) (s.core.frame g) t (ap (λ (z : ℕ). (s.core.frame z).page) e ∙ zero) x))
      (λ o. subst (λ (b : Block). PageFrame b (s.core.frame g) t) (sym (else g below o)) x))
      (λ g o l below x. dite (ℕ_discrete g f)
      (λ e. subst (λ (b : Block). PageLink b (s.core.frame g) l) (sym (here g e)) (grown_cell (block_of s.logged (s.core.frame g).tag) (s.core.frame g) l (ap (λ (z : ℕ). s.logged (s.core.frame z).tag) e ∙ noted_gone s h i f v there a.inside a.noted)
      (ap (λ (z : ℕ). (s.core.frame z).page) e ∙ zero) (ap (λ (z : ℕ). (s.core.frame z).word.valid) e ∙ a.valid) x))
      (λ n. subst (λ (b : Block). PageLink b (s.core.frame g) l) (sym (else g below n)) x))

  cut_blocks : (n end : ℕ) → CanEnterCut n s.core v fork → Grid page_shape page_part s.core.frames s.core.frame (block_of (logged_sized (enter_cut n end) fork s)) (set s.core.views i (sized_view (enter_cut n end)))
  cut_blocks n end a = let logged' : ℕ → Option Page = logged_sized (enter_cut n end) fork s in
      let stays_there : (g : ℕ) → g < s.core.frames → (s.core.frame g).tag ≢ no_tag → block_of logged' (s.core.frame g).tag ≡ block_of s.logged (s.core.frame g).tag
      = (λ g below named. ap (λ (b : Bool). block_of (λ _. cond b None (s.logged (s.core.frame g).tag)) 0) (h.sizes.passed i fork n g v there a.cut_to (a.passed g below) below named)) in
      reblock page_shape page_part s.core.frames s.core.frame (block_of s.logged) (set s.core.views i (sized_view (enter_cut n end))) (same_blocks (enter_cut n end) a) (block_of logged')
      (λ g below t x. dite (ℕ_discrete (s.core.frame g).tag no_tag) (λ e. bare_frame (block_of s.logged (s.core.frame g).tag) (block_of logged' (s.core.frame g).tag) (s.core.frame g) t e x)
      (λ named. subst (λ (b : Block). PageFrame b (s.core.frame g) t) (sym (stays_there g below named)) x))
      (λ g o l below x. dite (ℕ_discrete (s.core.frame g).tag no_tag) (λ e. bare_cell (block_of s.logged (s.core.frame g).tag) (block_of logged' (s.core.frame g).tag) (s.core.frame g) l e x)
      (λ named. subst (λ (b : Block). PageLink b (s.core.frame g) l) (sym (stays_there g below named)) x))

  sized_blocks : (k : SizeKind) → SizeAllowed k s.core v fork → Grid page_shape page_part s.core.frames s.core.frame (block_of (logged_sized k fork s)) (set s.core.views i (sized_view k))
  sized_blocks (enter_extension f end) a = grown_blocks f end a
  sized_blocks (enter_cut n end) a = cut_blocks n end a
  sized_blocks load_size a = same_blocks load_size a
  sized_blocks share_size a = same_blocks share_size a
  sized_blocks exclude_size a = same_blocks exclude_size a
  sized_blocks (unshare_size seen) a = same_blocks (unshare_size seen) a
  sized_blocks unexclude_size a = same_blocks unexclude_size a
  sized_blocks (pass_frame f n) a = same_blocks (pass_frame f n) a
  sized_blocks store_size a = same_blocks store_size a

  -- a block that isn't there after the step has no page
  gone_sized : (k : SizeKind) → SizeAllowed k s.core v fork → (tag : ℕ) → is_block (state_sized k s.core i fork v) tag ≡ false → logged_sized k fork s tag ≡ None
  gone_sized (enter_extension f end) a tag e = let new = new_block s.core h.sizes i fork v there h.core live f end a in
      put_else s.logged (s.core.frame f).tag (Some zero_page) tag (λ same. false≢true (sym e ∙ ap (is_block (state_sized (enter_extension f end) s.core i fork v)) same ∙ new))
      ∙ h.gone tag (false_from_ne_true (is_block s.core tag) (λ x. false≢true (sym e ∙ grown_block s.core h.sizes i fork v there h.core live f end a tag x)))
  gone_sized (enter_cut n end) a tag e = by_cut (is_cut fork n tag) refl
    where
      by_cut : (b : Bool) → is_cut fork n tag ≡ b → cond b None (s.logged tag) ≡ None
      by_cut true x = refl
      by_cut false x = h.gone tag (dite (ℕ_discrete (tag_fork tag) fork)
          (λ same. absurd (false≢true (sym e ∙ ap (nat_lt (tag_block tag)) (here_logged s.core h.sizes i fork v there (enter_cut n end) (tag_fork tag) same) ∙ lt-ltb (tag_block tag) n (below_cut n tag same x))))
          (λ o. ap (nat_lt (tag_block tag)) (sym (other_logged s.core h.sizes i fork v there (enter_cut n end) (tag_fork tag) o)) ∙ e))
  gone_sized load_size a tag e = h.gone tag (ap (nat_lt (tag_block tag)) (sym (logged_kept s.core fork load_size (tag_fork tag) refl)) ∙ e)
  gone_sized share_size a tag e = h.gone tag (ap (nat_lt (tag_block tag)) (sym (logged_kept s.core fork share_size (tag_fork tag) refl)) ∙ e)
  gone_sized exclude_size a tag e = h.gone tag (ap (nat_lt (tag_block tag)) (sym (logged_kept s.core fork exclude_size (tag_fork tag) refl)) ∙ e)
  gone_sized (unshare_size seen) a tag e = h.gone tag (ap (nat_lt (tag_block tag)) (sym (logged_kept s.core fork (unshare_size seen) (tag_fork tag) refl)) ∙ e)
  gone_sized unexclude_size a tag e = h.gone tag (ap (nat_lt (tag_block tag)) (sym (logged_kept s.core fork unexclude_size (tag_fork tag) refl)) ∙ e)
  gone_sized (pass_frame f n) a tag e = h.gone tag (ap (nat_lt (tag_block tag)) (sym (logged_kept s.core fork (pass_frame f n) (tag_fork tag) refl)) ∙ e)
  gone_sized store_size a tag e = h.gone tag (ap (nat_lt (tag_block tag)) (sym (logged_kept s.core fork store_size (tag_fork tag) refl)) ∙ e)

-- if forks don't grow and shrink a step at a size leaves the blocks' pages
pub quiet_logged : (s : State) → SizesLaw s.core → s.core.resizes ≡ false → (i fork : ℕ) (v : View) (k : SizeKind) → get_elem? s.core.views i ≡ some v → SizeAllowed k s.core v fork → logged_sized k fork s ≡ s.logged
quiet_logged s h quiet i fork v (enter_extension f end) there a = absurd (no_exclusive s.core h quiet i fork v there a.may.right)
quiet_logged s h quiet i fork v (enter_cut n end) there a = absurd (no_exclusive s.core h quiet i fork v there a.may.right)
quiet_logged s h quiet i fork v load_size there a = refl
quiet_logged s h quiet i fork v share_size there a = refl
quiet_logged s h quiet i fork v exclude_size there a = refl
quiet_logged s h quiet i fork v (unshare_size seen) there a = refl
quiet_logged s h quiet i fork v unexclude_size there a = refl
quiet_logged s h quiet i fork v (pass_frame f n) there a = refl
quiet_logged s h quiet i fork v store_size there a = refl

-- the law of pages after a step of `pin_core`
pages_below : (s : State) → PageInvariant s → {e : pin_steps.Event} {core' : below.State} → pin_steps.Step e s.core core' → Grid page_shape page_part core'.frames core'.frame (block_of (logged_by e s)) core'.views
pages_below s h (pin_steps.touches i f k v there live inside a around) = below_step s h i f v there live inside k a
pages_below s h (pin_steps.turns i p k v there live below a) = steady page_shape page_part s.core.frames s.core.frame (block_of s.logged) s.core.views h.pages i v (view_turned k p (hold v p) v) there refl (λ g. refl)
pages_below s h (pin_steps.sized i fork k v there live a) = sized_blocks s h i fork v there live k a
pages_below s h (pin_steps.splits v there room) = let w : View = record v { next = v.next + 1 } in let n = length v.links in let p = length v.partitions in let m = length v.lanes in
    grows page_shape page_part s.core.frames s.core.frame (block_of s.logged) (set s.core.views 0 w) (steady page_shape page_part s.core.frames s.core.frame (block_of s.logged) s.core.views h.pages 0 v w there refl (λ g. refl))
    (new_view v.next s.core.base n p m) (new_none v.next s.core.base n p m) (λ g inside. new_link (block_of s.logged (s.core.frame g).tag) v.next s.core.base n p m g (s.core.frame g))
pages_below s h (pin_steps.joins j v u there other here live free) = let w : View = joined_view v u in
    let first = steady page_shape page_part s.core.frames s.core.frame (block_of s.logged) s.core.views h.pages 0 v w there refl (λ g. refl) in
    let core_first = steady page_shape pin_part s.core.frames s.core.frame (block_of s.logged) s.core.views (to_pages s.core.frames s.core.frame (block_of s.logged) s.core.views h.core.grid) 0 v w there refl (λ g. refl) in
    sweep page_shape known page_part s.core.frames s.core.frame s.core.frame (block_of s.logged) (block_of s.logged) (set s.core.views 0 w) j u emptied_view (both_grids core_first first) (set_else s.core.views 0 j w other ∙ here)
    (λ g inside. forgets (block_of s.logged (s.core.frame g).tag) (s.core.frame g) (link u g) (free.frames g))

-- where the views wait after a step of `pin_core`
waits_below : (s : State) → PageInvariant s → {e : pin_steps.Event} {core' : below.State} → pin_steps.Step e s.core core' → WaitsLaw core'.views
waits_below s h (pin_steps.touches i f k v there live inside a around) = let r = pin_stepping.relinked s.core h.core i f v there live inside k in
    waits_fewer s.core.views h.waits i v (pin_stepping.after k s.core f v) there (relinks_less v (pin_stepping.after k s.core f v) f refl r.else (λ number x. wait_below k (s.core.frame f) (link v f) number (sym (ap (λ (y : Link). y.waits) r.here) ∙ x)))
waits_below s h (pin_steps.turns i p k v there live below a) = waits_set s.core.views h.waits i v (view_turned k p (hold v p) v) there refl refl
waits_below s h (pin_steps.sized i fork k v there live a) = waits_fewer s.core.views h.waits i v (view_sized k fork s.core v) there
    (record { number = refl; fewer = λ f number e. sized_links s.core h.core i fork v there live (λ l m. m.waits ≡ Some number → l.waits ≡ Some number) k a (λ l x. x) (λ l known x. x) (λ g end b e x. x) f e })
waits_below s h (pin_steps.splits v there room) = let w : View = record v { next = v.next + 1 } in waits_split (set s.core.views 0 w) (waits_set s.core.views h.waits 0 v w there refl refl) v.next s.core.base (length v.links) (length v.partitions) (length v.lanes)
waits_below s h (pin_steps.joins j v u there other here live free) = let w : View = joined_view v u in waits_emptied (set s.core.views 0 w) (waits_set s.core.views h.waits 0 v w there refl refl) j

-- Backend i, whose view is v, makes a step of a kind of `pin_core` at the frame f
module _ (s : State) (h : PageInvariant s) (i f : ℕ) (v : View) (there : get_elem? s.core.views i ≡ some v) (live : v.emptied ≡ false) (inside : f < s.core.frames) (k : pin_kinds.Kind) (a : pin_kinds.Allowed k (s.core.frame f) (link v f)) where
  abbrev frame_here : Frame
  frame_here = s.core.frame f

  abbrev link_at : Link
  link_at = link v f

  abbrev view_now : View
  view_now = pin_stepping.after k s.core f v

  r : Relinks frame_shape v view_now f (pin_kinds.link_after k frame_here link_at)
  r = pin_stepping.relinked s.core h.core i f v there live inside k

  abbrev sums_here : pins_tallies.Tally → ℕ
  sums_here = tallies frame_shape s.core.views f

  -- a frame that is given a tag has no other pin
  new_alone : (tag : ℕ) → k ≡ pin_kinds.store_new_tag tag → (j : ℕ) (u : View) → j ≢ i → get_elem? s.core.views j ≡ some u → (link u f).io ≢ Input
  new_alone tag e j u other here = let can : pin_kinds.Allowed (pin_kinds.store_new_tag tag) frame_here link_at = subst (λ (z : pin_kinds.Kind). pin_kinds.Allowed z frame_here link_at) e a in
      no_right (block_of s.logged frame_here.tag) frame_here link_at (link u f) sums_here (h.core.grid.columns f inside) (h.pages.cells j u f here inside) (terms_le (λ (x : View). pins_tallies.weigh pins_tallies.pins (link x f)) s.core.views i j v u other there here) can.alone
    where
      no_right : (b : Block) (fr : Frame) (l m : Link) (t : pins_tallies.Tally → ℕ) → pins.FrameLaw fr t → PageLink b fr m → pins_tallies.weigh pins_tallies.pins l + pins_tallies.weigh pins_tallies.pins m ≤ t pins_tallies.pins → pin_kinds.IsAlone fr l → m.io ≢ Input
      no_right b fr l m t q c le can = grind (arith, q, c, le, can)

  own_read : NotedPage (pin_kinds.frame_after k frame_here) link_at → NotedPage (pin_kinds.frame_after k frame_here) (pin_kinds.link_after k frame_here link_at)
  own_read x = record { valid = x.valid; read = λ p e. x.read p (sym (read_below k frame_here link_at) ∙ e) }

  noted_own_pins : (g : ℕ) → g < s.core.frames → (link view_now g).noted ≡ true → NotedPage (put s.core.frame f (pin_kinds.frame_after k frame_here) g) (link view_now g) × ((j : ℕ) (u : View) → j ≢ i → get_elem? s.core.views j ≡ some u → (link u g).io ≢ Input)
  noted_own_pins g below e = dite (ℕ_discrete g f)
      (λ same. let now = ap (λ (x : Link). x.noted) (sym r.here) ∙ ap (λ (z : ℕ). (link view_now z).noted) (sym same) ∙ e in
      let both_laws : NotedPage (pin_kinds.frame_after k frame_here) (pin_kinds.link_after k frame_here link_at) × ((j : ℕ) (u : View) → j ≢ i → get_elem? s.core.views j ≡ some u → (link u f).io ≢ Input) = ⊎_elim
      (λ (was : link_at.noted ≡ true). let law = h.noted i f v there inside was in (own_read (noted_below k (block_of s.logged frame_here.tag) frame_here link_at link_at sums_here a (h.core.grid.columns f inside) (h.core.grid.cells i v f there inside) law.page), law.alone))
      (λ (n : (tag : ℕ) × (k ≡ pin_kinds.store_new_tag tag)). (
        subst (λ (z : pin_kinds.Kind). NotedPage (pin_kinds.frame_after z frame_here) (pin_kinds.link_after z frame_here link_at)) (sym n.1)
            (noted_new n.0 (block_of s.logged frame_here.tag) frame_here link_at sums_here (subst (λ (z : pin_kinds.Kind). pin_kinds.Allowed z frame_here link_at) n.1 a) (h.core.grid.columns f inside) (h.pages.cells i v f there inside)),
        new_alone n.0 n.1,
      )) (noted_was k frame_here link_at now) in (
        subst (λ (z : Frame × Link). NotedPage z.0 z.1) (λ q. (sym (put_at s.core.frame f (pin_kinds.frame_after k frame_here) g same) q, sym (ap (λ (z : ℕ). link view_now z) same ∙ r.here) q)) both_laws.0,
        subst (λ (z : ℕ). (j : ℕ) (u : View) → j ≢ i → get_elem? s.core.views j ≡ some u → (link u z).io ≢ Input) (sym same) both_laws.1,
      ))
      (λ o. let law = h.noted i g v there below (ap (λ (x : Link). x.noted) (sym (r.else g o)) ∙ e) in
      (subst (λ (z : Frame × Link). NotedPage z.0 z.1) (λ q. (sym (put_else s.core.frame f (pin_kinds.frame_after k frame_here) g o) q, sym (r.else g o) q)) law.page, law.alone))

  noted_other_pins : (j g : ℕ) (u : View) → j ≢ i → get_elem? s.core.views j ≡ some u → g < s.core.frames → (link u g).noted ≡ true → NotedPage (put s.core.frame f (pin_kinds.frame_after k frame_here) g) (link u g) × ((link view_now g).io ≢ Input)
  noted_other_pins j g u other here below e = let law = h.noted j g u here below e in let quiet = law.alone i v (λ x. other (sym x)) there in dite (ℕ_discrete g f)
      (λ same. (
        subst (λ (z : Frame). NotedPage z (link u g)) (sym (put_at s.core.frame f (pin_kinds.frame_after k frame_here) g same))
            (noted_below k (block_of s.logged frame_here.tag) frame_here link_at (link u g) sums_here a (h.core.grid.columns f inside) (h.core.grid.cells i v f there inside) (subst (λ (z : Frame). NotedPage z (link u g)) (ap s.core.frame same) law.page)),
        λ x. quiet (ap (λ (z : ℕ). (link v z).io) same ∙ sym (io_below k frame_here link_at) ∙ ap (λ (y : Link). y.io) (sym r.here) ∙ ap (λ (z : ℕ). (link view_now z).io) (sym same) ∙ x),
      ))
      (λ o. (subst (λ (z : Frame). NotedPage z (link u g)) (sym (put_else s.core.frame f (pin_kinds.frame_after k frame_here) g o)) law.page, λ x. quiet (ap (λ (y : Link). y.io) (sym (r.else g o)) ∙ x)))

  -- what is noted after it
  noted_pins : NotedPages (record s { core = pin_steps.state_after k s.core i f v })
  noted_pins = noted_change s h.noted i v view_now (put s.core.frame f (pin_kinds.frame_after k frame_here)) (pin_steps.state_after k s.core i f v).partition s.core.size s.logged there noted_own_pins noted_other_pins

quiet_not_input : Quiet ≡ Input → ⊥
quiet_not_input e = absurd (cc)

noted_split : (s : State) → NotedPages s → (number base n p m : ℕ) → NotedPages (record s { core = record s.core { views = s.core.views ++ new_view number base n p m ∷ [] } })
noted_split s h number base n p m i f v there below e = let b : View = new_view number base n p m in ⊎_elim
    (λ (x : get_elem? s.core.views i ≡ some v). let law = h i f v x below e in record {
      page = law.page;
      alone = λ j u other here. ⊎_elim (λ (y : get_elem? s.core.views j ≡ some u). law.alone j u other y) (λ (y : (b ≡ u) × (j ≡ length s.core.views)). λ is. quiet_not_input (sym (ap (λ (z : Link). z.io) (link_new n p m number base f)) ∙ ap (λ (z : View). (link z f).io) y.0 ∙ is)) (at_end s.core.views b u j here);
    })
    (λ (x : (b ≡ v) × (i ≡ length s.core.views)). absurd (false≢true (sym (ap (λ (z : Link). z.noted) (link_new n p m number base f)) ∙ ap (λ (z : View). (link z f).noted) x.0 ∙ e))) (at_end s.core.views b v i there)

noted_after : (s : State) (h : PageInvariant s) {e : pin_steps.Event} {core' : below.State} → pin_steps.Step e s.core core' → NotedPages (record { core = core'; logged = logged_by e s })
noted_after s h (pin_steps.touches i f k v there live inside a around) = noted_pins s h i f v there live inside k a
noted_after s h (pin_steps.turns i p k v there live below a) = noted_less s h.noted i v (view_turned k p (hold v p) v) _ s.core.size s.logged there (λ f e. (e, refl)) (λ f e. e)
noted_after s h (pin_steps.sized i fork k v there live a) = noted_less s h.noted i v (view_sized k fork s.core v) s.core.partition _ (logged_sized k fork s) there
    (λ f e. sized_links s.core h.core i fork v there live (λ l m. m.noted ≡ true → (l.noted ≡ true) × (m.read ≡ l.read)) k a (λ l x. (x, refl)) (λ l known x. (x, refl)) (λ g end b e x. absurd (false≢true x)) f e)
    (λ f e. sized_links s.core h.core i fork v there live (λ l m. m.io ≡ Input → l.io ≡ Input) k a (λ l x. x) (λ l known x. x) (λ g end b e x. x) f e)
noted_after s h (pin_steps.splits v there room) = let w : View = record v { next = v.next + 1 } in noted_split (record s { core = record s.core { views = set s.core.views 0 w } }) (noted_less s h.noted 0 v w s.core.partition s.core.size s.logged there (λ f e. (e, refl)) (λ f e. e)) v.next s.core.base (length v.links) (length v.partitions) (length v.lanes)
noted_after s h (pin_steps.joins j v u there other here live free) = let w : View = joined_view v u in noted_less (record s { core = record s.core { views = set s.core.views 0 w } }) (noted_less s h.noted 0 v w s.core.partition s.core.size s.logged there (λ f e. (e, refl)) (λ f e. e)) j u emptied_view s.core.partition s.core.size s.logged (set_else s.core.views 0 j w other ∙ here)
    (λ f e. absurd (false≢true (sym (ap (λ (z : Link). z.noted) (link_new 0 0 0 0 0 f)) ∙ e))) (λ f e. absurd (quiet_not_input (sym (ap (λ (z : Link). z.io) (link_new 0 0 0 0 0 f)) ∙ e)))

gone_below : (s : State) (h : PageInvariant s) {e : pin_steps.Event} {core' : below.State} → pin_steps.Step e s.core core' → (tag : ℕ) → is_block core' tag ≡ false → logged_by e s tag ≡ None
gone_below s h (pin_steps.touches i f k v there live inside a around) tag e = h.gone tag e
gone_below s h (pin_steps.turns i p k v there live below a) tag e = h.gone tag e
gone_below s h (pin_steps.sized i fork k v there live a) tag e = gone_sized s h i fork v there live k a tag e
gone_below s h (pin_steps.splits v there room) tag e = h.gone tag e
gone_below s h (pin_steps.joins j v u there other here live free) tag e = h.gone tag e

pub step_keeps : {e : Event} {s t : State} → Step e s t → PageInvariant s → PageInvariant t
step_keeps (cores {s = s} x) h = record { core = pin_stepping.step_keeps x h.core; sizes = step_keeps_law x h.core h.sizes; pages = pages_below s h x; waits = waits_below s h x; noted = noted_after s h x; gone = gone_below s h x }
step_keeps (touches {s = s} i f k v there live inside a around) h = kind_step_keeps s h i f v there live inside k a around

pub run_keeps : {es : List Event} {s t : State} → Run es s t → PageInvariant s → PageInvariant t
run_keeps rests h = h
run_keeps (goes x r) h = run_keeps r (step_keeps x h)
