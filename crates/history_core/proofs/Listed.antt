-- Each pin that knows its frame's tag and has seen BM_VALID has its block listed.
use Rattle.std.proofs.Common.{◌≡◌, ◌≢◌, ℕ, zero, suc, ◌+◌, ◌<◌, Bool, true, false, List, [], ◌∷◌, ◌++◌, map, length, Option, Some, None, set, sym, refl, ap, ◌∙◌, subst, ⊎_elim}
use Rattle.std.specs.Prelude.{nat_eq, not, ◌||◌, ◌&&◌}
use Rattle.std.proofs.lemmas.Option.{same_Some}
use mathlib.Core.Logic.{dite}
use mathlib.Core.Option.{some, some-injective, some-ne-none}
use native.Mathlib.Decide.{ℕ_discrete}
use lib.ListN.{get_elem?}
use Rattle.state_word.specs.declared.word.IoEnd.TheVariants.{ReadOk, WriteOk, Bad}
use Rattle.pin_core.specs.declared.view.Link.{Link}
use Rattle.pin_core.specs.declared.view.LoadedWord.TheVariants as seen
use Rattle.pin_core.specs.declared.view.Resident.{Resident}
use Rattle.pin_core.specs.declared.view.View.{View}
use Rattle.pin_core.specs.State.{Frame, link, hold, size_hold, first_view, new_view, emptied_view, joined_view, empty_frame}
use Rattle.pin_core.specs.State as pins
use Rattle.pin_core.specs.Invariant.{LinkLaw, PinInvariant}
use Rattle.pin_core.specs.Kinds as pin_kinds
use Rattle.pin_core.specs.Kinds.{seen_gone, sighted}
use Rattle.pin_core.specs.Sizes.{SizeKind, SizeAllowed, pass_frame, residents_sized, view_sized}
use Rattle.pin_core.specs.Turns.{view_turned}
use Rattle.pin_core.specs.Steps as pin_steps
use Rattle.pin_core.proofs.Stepping.{new_link, relinked, sized_links}
use Rattle.page_core.specs.State.{Block, block_of}
use Rattle.page_core.specs.Steps as page_steps
use Rattle.page_core.specs.Kinds as kinds
use Rattle.page_core.specs.Kinds.{begin_write, make_entry}
use Rattle.history_core.specs.Log.{change_size}
use Rattle.history_core.specs.Lanes.{lane_back}
use Rattle.history_core.specs.Device.{view_logged}
use Rattle.history_core.specs.State.{State}
use Rattle.history_core.specs.Laws.{Laws}
use Rattle.history_core.specs.Residents.{ListsResident, PinsAreListed}
use Rattle.history_core.specs.Steps.{stepped, looked, logged_noting, pool_noting, paged, laned, has_read, has_seen_size, has_written, pools, lanes, writes, notes, logs, enters, reads, reads_size, words, after_word}
use Rattle.history_core.specs.Words.{word_of, word_at}
use Rattle.history_core.proofs.Always.{KeptByLaws, always}
use Rattle.history_core.proofs.Stepping.{relinks}
use Rattle.history_core.proofs.Words.{link_left}
use Rattle.grid.proofs.Lists.{at_set, at_end, at_last, at_longer, at_only}

-- what was listed stays so
abbrev Keeps : List Resident → List Resident → Type 0
Keeps before after = (f tag : ℕ) → ListsResident f tag before → ListsResident f tag after

pub at_mapped : (g : Resident → Resident) (l : List Resident) (k : ℕ) (r : Resident) → get_elem? l k ≡ some r → get_elem? (map g l) k ≡ some (g r)
at_mapped g [] k r at = absurd (some-ne-none r (sym at))
at_mapped g (x ∷ l) zero r at = ap (λ (y : Resident). some (g y)) (some-injective x r at)
at_mapped g (x ∷ l) (suc k) r at = at_mapped g l k r at

keeps_longer : (rs more : List Resident) → Keeps rs (rs ++ more)
keeps_longer rs more f tag (k, r, at, frame, is) = (k, r, at_longer rs more k r at, frame, is)

keeps_gone : (p : Resident → Bool) (f : ℕ) (rs : List Resident) → Keeps rs (seen_gone p f rs)
keeps_gone p f rs g tag (k, r, at, frame, is) = let mark : Resident → Resident = λ (x : Resident). record x { gone = x.gone || (nat_eq x.frame f && p x) } in (k, mark r, at_mapped mark rs k r at, frame, is)

keeps_pinned : (k : pin_kinds.Kind) (f : ℕ) (fr : Frame) (l : Link) (rs : List Resident) → Keeps rs (pin_kinds.residents_after k f fr l rs)
keeps_pinned pin_kinds.load_state f fr l rs = let p : Resident → Bool = λ (r : Resident). not fr.word.valid in λ g tag x.
    keeps_longer (seen_gone p f rs) (sighted (pin_kinds.link_after pin_kinds.load_state fr l).seen_valid (pin_kinds.link_after pin_kinds.load_state fr l).tag f) g tag (keeps_gone p f rs g tag x)
keeps_pinned pin_kinds.load_tag f fr l rs = let p : Resident → Bool = λ (r : Resident). not (nat_eq r.tag fr.tag) in λ g tag x.
    keeps_longer (seen_gone p f rs) (sighted (pin_kinds.link_after pin_kinds.load_tag fr l).seen_valid (pin_kinds.link_after pin_kinds.load_tag fr l).tag f) g tag (keeps_gone p f rs g tag x)
keeps_pinned _ f fr l rs = λ g tag x. x

keeps_paged : (k : kinds.Kind) (f : ℕ) (l : Link) (rs : List Resident) → Keeps rs (kinds.residents_after k f l rs)
keeps_paged (kinds.end_io end) f l rs = keeps_longer rs (kinds.sighted_by end l.tag f)
keeps_paged _ f l rs = λ g tag x. x

-- the last one is the pin's, where it knows the tag and has seen BM_VALID
lists_last : (rs : List Resident) (saw : Bool) (known : Option ℕ) (f tag : ℕ) → saw ≡ true → known ≡ Some tag → ListsResident f tag (rs ++ sighted saw known f)
lists_last rs true (Some t) f tag e is = let r : Resident = record { frame = f; tag = t; gone = false } in (length rs, r, at_last rs r, refl, same_Some t tag is)
lists_last rs true None f tag e is = absurd (cc)
lists_last rs false known f tag e is = absurd (cc)

-- what the pin that steps knows after a kind
here_pinned : (k : pin_kinds.Kind) (f : ℕ) (fr : Frame) (l : Link) (rs : List Resident) → LinkLaw fr l → pin_kinds.Allowed k fr l → ((tag : ℕ) → l.seen_valid ≡ true → l.tag ≡ Some tag → ListsResident f tag rs)
    → (tag : ℕ) → (pin_kinds.link_after k fr l).seen_valid ≡ true → (pin_kinds.link_after k fr l).tag ≡ Some tag → ListsResident f tag (pin_kinds.residents_after k f fr l rs)
here_pinned pin_kinds.load_state f fr l rs c a old tag saw known = lists_last (seen_gone (λ (r : Resident). not fr.word.valid) f rs) (pin_kinds.link_after pin_kinds.load_state fr l).seen_valid (pin_kinds.link_after pin_kinds.load_state fr l).tag f tag saw known
here_pinned pin_kinds.load_tag f fr l rs c a old tag saw known = lists_last (seen_gone (λ (r : Resident). not (nat_eq r.tag fr.tag)) f rs) (pin_kinds.link_after pin_kinds.load_tag fr l).seen_valid (pin_kinds.link_after pin_kinds.load_tag fr l).tag f tag saw known
here_pinned (pin_kinds.pin_mapped t ring) f fr l rs c a old tag saw known = absurd (let none = (c.unpinned a.absent).1 in cc)
here_pinned pin_kinds.unpin f fr l rs c a old tag saw known = absurd (cc)
here_pinned (pin_kinds.store_tag t) f fr l rs c a old tag saw known = absurd (cc)
here_pinned (pin_kinds.store_new_tag t) f fr l rs c a old tag saw known = absurd (cc)
here_pinned pin_kinds.erase_tag f fr l rs c a old tag saw known = absurd (cc)
here_pinned pin_kinds.assign f fr l rs c a old tag saw known = absurd (let none = (c.pending a.stored).unseen in cc)
here_pinned _ f fr l rs c a old tag saw known = old tag saw known

here_paged : (k : kinds.Kind) (f : ℕ) (b : Block) (fr : Frame) (l : Link) (rs : List Resident) → ((tag : ℕ) → l.seen_valid ≡ true → l.tag ≡ Some tag → ListsResident f tag rs)
    → (tag : ℕ) → (kinds.link_after k b fr l).seen_valid ≡ true → (kinds.link_after k b fr l).tag ≡ Some tag → ListsResident f tag (kinds.residents_after k f l rs)
here_paged (kinds.end_io ReadOk) f b fr l rs old tag saw known = lists_last rs true l.tag f tag refl known
here_paged (kinds.end_io WriteOk) f b fr l rs old tag saw known = keeps_longer rs [] f tag (old tag saw known)
here_paged (kinds.end_io Bad) f b fr l rs old tag saw known = keeps_longer rs [] f tag (old tag saw known)
here_paged _ f b fr l rs old tag saw known = old tag saw known

-- all that the pins of a view know is listed
abbrev PinsListed : ℕ → View → Type 0
PinsListed n v = (f tag : ℕ) → f < n → (link v f).seen_valid ≡ true → (link v f).tag ≡ Some tag → ListsResident f tag v.residents

abbrev AllListed : ℕ → List View → Type 0
AllListed n views = (i : ℕ) (v : View) → get_elem? views i ≡ some v → PinsListed n v

all_set : (n : ℕ) (views : List View) → AllListed n views → (i : ℕ) (w : View) → PinsListed n w → AllListed n (set views i w)
all_set n views m i w x j u at = ⊎_elim (λ (y : (j ≡ i) × (w ≡ u)). subst (PinsListed n) y.1 x) (λ (y : (j ≢ i) × (get_elem? views j ≡ some u)). m j u y.1) (at_set views i j w u at)

-- after a step at the frame f
touched : (n f : ℕ) (v w : View) (l : Link) → f < n → link w f ≡ l → ((g : ℕ) → g ≢ f → link w g ≡ link v g) → Keeps v.residents w.residents → ((tag : ℕ) → l.seen_valid ≡ true → l.tag ≡ Some tag → ListsResident f tag w.residents) → PinsListed n v → PinsListed n w
touched n f v w l inside here else keeps new m g tag below saw known = dite (ℕ_discrete g f)
    (λ (e : g ≡ f). subst (λ (z : ℕ). ListsResident z tag w.residents) (sym e) (new tag
    (ap (λ (x : Link). x.seen_valid) (sym here) ∙ ap (λ (z : ℕ). (link w z).seen_valid) (sym e) ∙ saw)
    (ap (λ (x : Link). x.tag) (sym here) ∙ ap (λ (z : ℕ). (link w z).tag) (sym e) ∙ known)))
    (λ (o : g ≢ f). keeps g tag (m g tag below (ap (λ (x : Link). x.seen_valid) (sym (else g o)) ∙ saw) (ap (λ (x : Link). x.tag) (sym (else g o)) ∙ known)))

-- a new view knows nothing
unseen : (number base n p m f : ℕ) → (link (new_view number base n p m) f).seen_valid ≡ true → ⊥
unseen number base n p m f saw = let e = (new_link number base n p m f (empty_frame [])).seen saw in absurd (cc)

-- a step at the size of a fork marks some as gone, and takes none from the list
keeps_sized : (k : SizeKind) (s : pins.State) (rs : List Resident) → Keeps rs (residents_sized k s rs)
keeps_sized (pass_frame g n) s rs = keeps_gone (λ (r : Resident). not (nat_eq r.tag (s.frame g).tag)) g rs
keeps_sized _ s rs = λ f tag x. x

-- what a link knows of its frame's block
record KnowsNoMore (l m : Link) : Type 0 where
  pub seen_valid : m.seen_valid ≡ l.seen_valid
  pub tag : m.tag ≡ l.tag

-- a step at the size of a fork leaves that
sized_listed : (s : State) (h : PinInvariant s.pool.core) (i fork : ℕ) (v : View) → get_elem? s.pool.core.views i ≡ some v → v.emptied ≡ false → (k : SizeKind) → SizeAllowed k s.pool.core v fork → PinsListed s.pool.core.frames v → PinsListed s.pool.core.frames (view_sized k fork s.pool.core v)
sized_listed s h i fork v there live k a m f tag below saw known = let x = sized_links s.pool.core h i fork v there live KnowsNoMore k a (λ l. record { seen_valid = refl; tag = refl }) (λ l some. record { seen_valid = refl; tag = refl }) (λ g end b e. record { seen_valid = refl; tag = refl }) f in
    keeps_sized k s.pool.core v.residents f tag (m f tag below (sym x.seen_valid ∙ saw) (sym x.tag ∙ known))

pools_listed : (s : State) (h : PinInvariant s.pool.core) → AllListed s.pool.core.frames s.pool.core.views → {e : pin_steps.Event} {core' : pins.State} → pin_steps.Step e s.pool.core core' → AllListed core'.frames core'.views
pools_listed s h m (pin_steps.touches i f k v there live inside a around) = let n = s.pool.core.frames in let fr = s.pool.core.frame f in let w : View = pin_kinds.view_after k s.pool.core.partition_of f fr (link v f) v in let r = relinked s.pool.core h i f v there live inside k in
    all_set n s.pool.core.views m i w (touched n f v w (pin_kinds.link_after k fr (link v f)) inside r.here r.else (keeps_pinned k f fr (link v f) v.residents)
    (here_pinned k f fr (link v f) v.residents (h.grid.cells i v f there inside) a (λ tag saw known. m i v there f tag inside saw known)) (m i v there))
pools_listed s h m (pin_steps.turns i p k v there live below a) = all_set s.pool.core.frames s.pool.core.views m i (view_turned k p (hold v p) v) (m i v there)
pools_listed s h m (pin_steps.sized i fork k v there live a) = all_set s.pool.core.frames s.pool.core.views m i (view_sized k fork s.pool.core v) (sized_listed s h i fork v there live k a (m i v there))
pools_listed s h m (pin_steps.splits v there room) = let w : View = record v { next = v.next + 1 } in let b : View = new_view v.next s.pool.core.base (length v.links) (length v.partitions) (length v.lanes) in
    λ i u at. ⊎_elim (λ (y : get_elem? (set s.pool.core.views 0 w) i ≡ some u). all_set s.pool.core.frames s.pool.core.views m 0 w (m 0 v there) i u y)
    (λ (y : (b ≡ u) × (i ≡ length (set s.pool.core.views 0 w))). subst (PinsListed s.pool.core.frames) y.0 (λ f tag below saw known. absurd (unseen v.next s.pool.core.base (length v.links) (length v.partitions) (length v.lanes) f saw)))
    (at_end (set s.pool.core.views 0 w) b u i at)
pools_listed s h m (pin_steps.joins j v u there other here live free) = let n = s.pool.core.frames in let w : View = joined_view v u in
    all_set n (set s.pool.core.views 0 w) (all_set n s.pool.core.views m 0 w (λ f tag below saw known. keeps_longer v.residents u.residents f tag (m 0 v there f tag below saw known))) j emptied_view (λ f tag below saw known. absurd (unseen 0 0 0 0 0 f saw))

-- after a step of `page_core` at the frame f, whatever else changes of the view
paged_listed : (s : State) (laws : Laws s) (i f : ℕ) (k : kinds.Kind) (b : Block) (v w : View) → get_elem? s.pool.core.views i ≡ some v → v.emptied ≡ false → f < s.pool.core.frames → w.links ≡ set v.links f (kinds.link_after k b (s.pool.core.frame f) (link v f)) → w.residents ≡ kinds.residents_after k f (link v f) v.residents
    → PinsAreListed s → AllListed s.pool.core.frames (set s.pool.core.views i w)
paged_listed s laws i f k b v w there live inside links residents m = let n = s.pool.core.frames in let fr = s.pool.core.frame f in let l : Link = kinds.link_after k b fr (link v f) in let r = relinks s laws.invariant i f v w l there live inside links in
    all_set n s.pool.core.views m i w (touched n f v w l inside r.here r.else (λ g tag x. subst (ListsResident g tag) (sym residents) (keeps_paged k f (link v f) v.residents g tag x))
    (λ tag saw known. subst (ListsResident f tag) (sym residents) (here_paged k f b fr (link v f) v.residents (λ t s' e. m i v there f t inside s' e) tag saw known)) (m i v there))

listed_kept : KeptByLaws PinsAreListed
listed_kept e s t (pools (page_steps.cores x) a) laws m = pools_listed s laws.invariant.pool.core m x
listed_kept e s t (pools (page_steps.touches i f k v there live inside a around) plain) laws m = paged_listed s laws i f k (block_of s.pool.logged (s.pool.core.frame f).tag) v (paged k s.pool f v) there live inside refl refl m
listed_kept e s t (lanes i q k v there live low a alone) laws m = all_set s.pool.core.frames s.pool.core.views m i (stepped (laned k q v v)) (m i v there)
listed_kept e s t (writes i q f k v there live low inside a x) laws m = paged_listed s laws i f begin_write (block_of s.pool.logged (s.pool.core.frame f).tag) v (laned k q v (paged begin_write s.pool f v)) there live inside refl refl m
listed_kept e s t (notes i q f noted k v there live low inside a x) laws m = paged_listed s laws i f k (block_of (logged_noting k s f) (s.pool.core.frame f).tag) v (laned (lane_back noted) q v (paged k (pool_noting k s f) f v)) there live inside refl refl m
listed_kept e s t (logs i k v there live a record_is) laws m = all_set s.pool.core.frames s.pool.core.views m i (view_logged k v) (m i v there)
listed_kept e s t (enters i f p c v there live inside x) laws m = paged_listed s laws i f (make_entry p) (block_of s.pool.logged (s.pool.core.frame f).tag) v (has_written c (link v f).copied (s.end + change_size c) (s.pool.core.frame f).tag p (paged (make_entry p) s.pool f v)) there live inside refl refl m
listed_kept e s t (reads i f tag p v there live inside a) laws m = all_set s.pool.core.frames s.pool.core.views m i (looked (seen.LogEnd s.end) (has_read s.end tag p v)) (m i v there)
listed_kept e s t (reads_size i fork v there live shared) laws m = all_set s.pool.core.frames s.pool.core.views m i (looked (seen.LogEnd s.end) (has_seen_size s.end fork (size_hold v fork).blocks v)) (m i v there)
listed_kept e s t (words i k v there live a) laws m = all_set s.pool.core.frames s.pool.core.views m i (after_word k s v)
    (λ f tag below saw known. let same = link_left k (word_of (word_at k) s) s.end v f in m i v there f tag below (ap (λ (x : Link). x.seen_valid) (sym same) ∙ saw) (ap (λ (x : Link). x.tag) (sym same) ∙ known))

pub pins_listed : (s : State) → Laws s → PinsAreListed s
pins_listed s h = let r = h.reached in let c = r.config in always PinsAreListed listed_kept s r (λ i v at f tag below saw known.
    absurd (unseen 0 c.base c.frames c.partitions c.lanes f (ap (λ (x : View). (link x f).seen_valid) (at_only (first_view c.base c.frames c.partitions c.lanes) v i at).0 ∙ saw)))
