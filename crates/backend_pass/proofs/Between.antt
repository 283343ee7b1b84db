-- What calls leave of the tokens and the content locks that a pass has, and that passes without tokens can all be given back.
use Rattle.std.proofs.Common.{◌≡◌, ◌≢◌, ◌+◌, ◌-◌, ◌<◌, ◌∙◌, All, ℕ, Bool, true, false, cond, eq-eqb, ne_eqb, List, [], ◌∷◌, set, length, nat_eq, slice_index_or, Option, refl, sym, ap, subst, arith}
use mathlib.Core.Logic.{dite}
use mathlib.Core.Option.{some}
use native.Mathlib.Decide.{ℕ_discrete}
use lib.ListN.{get_elem?}
use Rattle.std.proofs.lemmas.List.{get_or-set_other, get_or-set_same}
use Rattle.block_tag.specs.declared.tag.Tag.{Tag}
use Rattle.segment_store.specs.Contents.{Pages}
use Rattle.pin_core.specs.declared.view.Content.{Content}
use Rattle.pin_core.specs.declared.view.Content.TheVariants.{Unlocked}
use Rattle.pin_core.specs.declared.view.Link.{Link}
use Rattle.pin_core.specs.declared.view.View.{View}
use Rattle.pin_core.specs.State.{link}
use Rattle.pin_core.proofs.Views.{link_new}
use Rattle.table_rule.proofs.Opens.{length_low, there_at}
use Rattle.frame_table.specs.Seats.{base_of, frames_of, lanes_in}
use Rattle.buffer_frames.specs.Tokens.{HeldFrame, IsPinnedFor, Tokens, held_at, no_tokens, tokens_less, tokens_of}
use Rattle.buffer_frames.proofs.HeldLists.{less_others}
use Rattle.backend_pass.specs.declared.manager.Manager.{Manager}
use Rattle.backend_pass.specs.declared.pinned.Pinned.{Pinned}
use Rattle.backend_pass.specs.Between.{AllReturn, CanGoBack, GivesOneBack, HasNoLock, HasOnlyToken, HasToken, IsIdlePass, IsNumber, KeepsHeld, Returns}
use Rattle.backend_pass.specs.Locks.{ChangesLock, HasLock}
use Rattle.backend_pass.specs.Managers.{AreAll, AreNewPasses, Belongs, IsNewPass, first_in}
use Rattle.backend_pass.specs.Passes.{KeepsCallers, KeepsLocks, KeepsPass, PassOwn, PassState, SamePass}
use Rattle.backend_pass.proofs.Joining.{first_here, fronted_each, spent_each}
use Rattle.backend_pass.proofs.Keeping.{pass_none, pass_on}
use Rattle.backend_pass.proofs.Listed.{listed_each, parts_each}
use Rattle.backend_pass.proofs.Seated.{same_on}
use Rattle.backend_pass.proofs.Standing.{standing_or}

-- a token less of each of two frames, in either order
less_first : (h : HeldFrame) (t : Tokens) (f : ℕ) → f ≡ h.frame → tokens_less f (h ∷ t) ≡ cond (nat_eq h.tokens 1) t (record h { tokens = h.tokens - 1 } ∷ t)
less_first h t f e = ap (λ b. cond b (cond (nat_eq h.tokens 1) t (record h { tokens = h.tokens - 1 } ∷ t)) (h ∷ tokens_less f t)) (eq-eqb f h.frame e)

less_past : (h : HeldFrame) (t : Tokens) (f : ℕ) → f ≢ h.frame → tokens_less f (h ∷ t) ≡ h ∷ tokens_less f t
less_past h t f n = ap (λ b. cond b (cond (nat_eq h.tokens 1) t (record h { tokens = h.tokens - 1 } ∷ t)) (h ∷ tokens_less f t)) (ne_eqb f h.frame n)

less_kept : (b : Bool) (h : HeldFrame) (t : Tokens) (g : ℕ) → g ≢ h.frame → tokens_less g (cond b t (h ∷ t)) ≡ cond b (tokens_less g t) (h ∷ tokens_less g t)
less_kept true h t g n = refl
less_kept false h t g n = less_past h t g n

less_apart : (h : HeldFrame) (t : Tokens) (f g : ℕ) → f ≡ h.frame → g ≢ h.frame → tokens_less f (tokens_less g (h ∷ t)) ≡ tokens_less g (tokens_less f (h ∷ t))
less_apart h t f g e n = ap (tokens_less f) (less_past h t g n) ∙ less_first h (tokens_less g t) f e
    ∙ sym (ap (tokens_less g) (less_first h t f e) ∙ less_kept (nat_eq h.tokens 1) (record h { tokens = h.tokens - 1 }) t g n)

less_both : (t : Tokens) (f g : ℕ) → f ≢ g → tokens_less f (tokens_less g t) ≡ tokens_less g (tokens_less f t)
less_both [] f g n = refl
less_both (h ∷ hs) f g n = dite (ℕ_discrete f h.frame)
    (λ e. less_apart h hs f g e (λ d. n (e ∙ sym d)))
    (λ o. dite (ℕ_discrete g h.frame)
    (λ d. sym (less_apart h hs g f d o))
    (λ p. ap (tokens_less f) (less_past h hs g p) ∙ less_past h (tokens_less g hs) f o ∙ ap (λ (t : Tokens). h ∷ t) (less_both hs f g n)
    ∙ sym (ap (tokens_less g) (less_past h hs f o) ∙ less_past h (tokens_less f hs) g p)))

-- a token of a frame whose tokens stay
pinned_still : (tag : Tag) (f : ℕ) (t u : Tokens) → held_at u f ≡ held_at t f → IsPinnedFor tag f t → IsPinnedFor tag f u
pinned_still tag f t u e i = record { held = i.held; there = e ∙ i.there; same = i.same }

-- it stays while another frame is pinned, and calls keep it
pub token_beside : (held : Pinned) (f : ℕ) (p u : PassState) → held.frame ≢ f → KeepsLocks p u → tokens_less f u.tokens ≡ p.tokens → HasToken held p → HasToken held u
token_beside held f p u n locks back h = record {
  token = pinned_still held.tag held.frame p.tokens u.tokens (sym (less_others u.tokens f held.frame n) ∙ ap (λ (t : Tokens). held_at t held.frame) back) h.token;
  unlocked = locks held.frame ∙ h.unlocked;
}

pub token_kept : (held : Pinned) (p u : PassState) → u.tokens ≡ p.tokens → KeepsLocks p u → HasToken held p → HasToken held u
token_kept held p u tokens locks h = record { token = subst (IsPinnedFor held.tag held.frame) (sym tokens) h.token; unlocked = locks held.frame ∙ h.unlocked }

pub no_lock_kept : (p q : PassState) → KeepsLocks p q → HasNoLock p → HasNoLock q
no_lock_kept p q locks none f = locks f ∙ none f

pub number_kept : (n i : ℕ) (p q : PassState) → IsNumber n i p → KeepsPass p q → IsNumber n i q
number_kept n i p q is k = record {
  number = k.number ∙ is.number;
  joined = k.joined ∙ is.joined;
  next = λ first. k.next ∙ is.next first;
  rest = λ first. ap (λ (o : PassOwn). o.queue.known.parts + n) k.own ∙ is.rest first;
  part = λ other. ap (λ (o : PassOwn). o.queue.known.parts) k.own ∙ is.part other;
}

-- an element that is there is read, whatever stands in for none
pub same_read : (ps : List PassState) (i : ℕ) (c d : PassState) → i < length ps → slice_index_or ps i c ≡ slice_index_or ps i d
same_read ps i c d below = let p = there_at ps i below in standing_or ps i p.0 c p.1 ∙ sym (standing_or ps i p.0 d p.1)

module _ {L G : Type 0} (contents : L → Option Pages) (m : Manager L G) where
  -- a pass as it is started
  pub new_number : (n i : ℕ) (p : PassState) → IsNewPass contents m n i p → IsNumber n i p
  new_number n i p new = record { number = ap (λ (v : View). v.number) new.view; joined = ap (λ (v : View). v.joined) new.view; next = new.next; rest = new.rest; part = new.part }

  pub new_unlocked : (n i : ℕ) (p : PassState) → IsNewPass contents m n i p → HasNoLock p
  new_unlocked n i p new f = ap (λ (v : View). (link v f).content) new.view
      ∙ ap (λ (l : Link). l.content) (link_new (frames_of m.table) 128 (lanes_in m.table) i (base_of m.table) f)

  pub new_idle : (n i : ℕ) (p : PassState) → IsNewPass contents m n i p → IsIdlePass contents m p
  new_idle n i p new = record { belongs = new.belongs; spent = new.tokens; unlocked = new_unlocked n i p new }

  pub new_idle_each : (n : ℕ) (ps : List PassState) → AreNewPasses contents m n ps → All (IsIdlePass contents m) ps
  new_idle_each n ps new i d below = let p = there_at ps i below in
      subst (IsIdlePass contents m) (sym (standing_or ps i p.0 d p.1)) (new_idle n i p.0 (new.each i p.0 p.1))

  pub new_goes_back : (n i : ℕ) (p : PassState) → IsNewPass contents m n i p → CanGoBack contents m n i p
  new_goes_back n i p new = record { is = new_number n i p new; free = record { belongs = new.belongs; spent = new.tokens } }

  -- a pass that calls left idle
  pub idle_kept : (p q : PassState) → IsIdlePass contents m p → Belongs contents m q → q.tokens ≡ p.tokens → KeepsLocks p q → IsIdlePass contents m q
  idle_kept p q idle b tokens locks = record { belongs = b; spent = tokens ∙ idle.spent; unlocked = no_lock_kept p q locks idle.unlocked }

  -- a block is pinned
  pub only_pinned : (tag : Tag) (pinned : Pinned) (p q : PassState) → IsIdlePass contents m p → pinned.tag ≡ tag → Belongs contents m q → IsPinnedFor tag pinned.frame q.tokens → tokens_less pinned.frame q.tokens ≡ p.tokens → KeepsLocks p q → HasOnlyToken contents m Unlocked pinned q
  only_pinned tag pinned p q idle same b token back locks = record {
    belongs = b;
    token = subst (λ (t : Tag). IsPinnedFor t pinned.frame q.tokens) (sym same) token;
    last = back ∙ idle.spent;
    locked = locks pinned.frame ∙ idle.unlocked pinned.frame;
    others = λ f n. locks f ∙ idle.unlocked f;
  }

  -- the lock of its frame is taken, or released
  pub only_relocked : {before : Content} (after : Content) (pinned given : Pinned) (p q : PassState) → HasOnlyToken contents m before pinned p → given ≡ pinned → Belongs contents m q → q.tokens ≡ p.tokens → ChangesLock after pinned.frame p q → HasOnlyToken contents m after given q
  only_relocked after pinned given p q only same b tokens lock = subst (λ (x : Pinned). HasOnlyToken contents m after x q) (sym same) record {
    belongs = b;
    token = subst (IsPinnedFor pinned.tag pinned.frame) (sym tokens) only.token;
    last = ap (tokens_less pinned.frame) tokens ∙ only.last;
    locked = lock.here;
    others = λ f n. ap (λ (l : Link). l.content) (lock.others f n) ∙ only.others f n;
  }

  -- its page is read, or one is put
  pub only_kept : (lock : Content) (pinned : Pinned) (p q : PassState) → HasOnlyToken contents m lock pinned p → Belongs contents m q → q.tokens ≡ p.tokens → KeepsLocks p q → HasOnlyToken contents m lock pinned q
  only_kept lock pinned p q only b tokens locks = record {
    belongs = b;
    token = subst (IsPinnedFor pinned.tag pinned.frame) (sym tokens) only.token;
    last = ap (tokens_less pinned.frame) tokens ∙ only.last;
    locked = locks pinned.frame ∙ only.locked;
    others = λ f n. locks f ∙ only.others f n;
  }

  -- the token is given back
  pub idle_released : (pinned : Pinned) (p q : PassState) → HasOnlyToken contents m Unlocked pinned p → Belongs contents m q → q.tokens ≡ tokens_less pinned.frame p.tokens → KeepsLocks p q → IsIdlePass contents m q
  idle_released pinned p q only b tokens locks = record {
    belongs = b;
    spent = tokens ∙ only.last;
    unlocked = λ f. locks f ∙ dite (ℕ_discrete f pinned.frame)
        (λ e. subst (λ (x : ℕ). HasLock Unlocked x p) (sym e) only.locked)
        (λ n. only.others f n);
  }

  pub returns_on : (p q r : PassState) → Returns contents m p q → Returns contents m q r → Returns contents m p r
  returns_on p q r a b = record { same = pass_on p q r a.same b.same; idle = b.idle }

  -- a checkpoint by an idle pass
  pub returns_kept : (p q : PassState) → IsIdlePass contents m p → Belongs contents m q → KeepsCallers p q → Returns contents m p q
  returns_kept p q idle b k = record { same = k.keeps; idle = idle_kept p q idle b k.tokens k.locks }

  -- the pass at a place returned once more
  pub set_back : (ps qs : List PassState) (at : ℕ) (z : PassState) → length qs ≡ length ps → AllReturn contents m ps qs → ((d : PassState) → Returns contents m (slice_index_or qs at d) z) → AllReturn contents m ps (set qs at z)
  set_back ps qs at z counted each last i d below = dite (ℕ_discrete i at)
      (λ e. subst (λ (j : ℕ). Returns contents m (slice_index_or ps j d) (slice_index_or (set qs at z) j d)) (sym e)
      (subst (λ (y : PassState). Returns contents m (slice_index_or ps at d) y) (sym (get_or-set_same qs at z d (let c = counted in omega arith)))
      (returns_on (slice_index_or ps at d) (slice_index_or qs at d) z (each at d (omega arith)) (last d))))
      (λ n. subst (λ (y : PassState). Returns contents m (slice_index_or ps i d) y) (sym (get_or-set_other qs at i z d n)) (each i d below))

  -- a pass that calls left without tokens can go back still
  pub goes_back : (n i : ℕ) (p q : PassState) → CanGoBack contents m n i p → KeepsPass p q → Belongs contents m q → q.tokens ≡ no_tokens → CanGoBack contents m n i q
  goes_back n i p q h k b spent = record { is = number_kept n i p q h.is k; free = record { belongs = b; spent = spent } }

  -- all can be given back if each can
  pub all_go_back : (n : ℕ) (qs : List PassState) → 0 < n → length qs ≡ n → ((i : ℕ) (q : PassState) → get_elem? qs i ≡ some q → CanGoBack contents m n i q) → AreAll m qs
  all_go_back n [] more counted each = absurd (omega arith)
  all_go_back n (q ∷ qs) more counted each =
      let h = each 0 q refl in
      let first : first_in (q ∷ qs) ≡ q.view = first_here q qs (ap (λ (k : ℕ). nat_eq k 0) h.is.number) in
      record {
        nonempty = omega arith;
        counted = counted ∙ sym (ap (λ (v : View). v.next) first ∙ h.is.next refl);
        joined = ap (λ (v : View). v.joined) first ∙ h.is.joined;
        spent = spent_each m.table.table.shared.table_id (q ∷ qs) (λ i x at. let k = each i x at in (k.free.belongs.table, k.free.spent));
        fronts = fronted_each (base_of m.table) (q ∷ qs) (λ i x at. (each i x at).free.belongs.front);
        queues = listed_each m (q ∷ qs) (λ i x at. (each i x at).free.belongs.queue);
        parts = parts_each n (q ∷ qs) more counted (λ i x at. let k = each i x at in (k.is.rest, k.is.part));
      }

  pub all_new_go_back : (n : ℕ) (ps : List PassState) → 0 < n → AreNewPasses contents m n ps → AreAll m ps
  all_new_go_back n ps more new = all_go_back n ps more new.counted (λ i p at. new_goes_back n i p (new.each i p at))

  pub all_returned : (n : ℕ) (ps qs : List PassState) → 0 < n → AreNewPasses contents m n ps → length qs ≡ length ps → AllReturn contents m ps qs → AreAll m qs
  all_returned n ps qs more new counted each = all_go_back n qs more (counted ∙ new.counted) came
    where
      came : (i : ℕ) (x : PassState) → get_elem? qs i ≡ some x → CanGoBack contents m n i x
      came i x at =
          let below = length_low qs i x at in
          let p = there_at ps i (let e = counted in omega arith) in
          let back : Returns contents m p.0 x = subst (λ (y : PassState). Returns contents m y x) (standing_or ps i p.0 x p.1)
          (subst (λ (y : PassState). Returns contents m (slice_index_or ps i x) y) (standing_or qs i x x at) (each i x (let e = counted in omega arith))) in
          goes_back n i p.0 x (new_goes_back n i p.0 (new.each i p.0 p.1)) back.same back.idle.belongs back.idle.spent

  -- a pass that nothing was done with
  pub held_none : (p : PassState) → Belongs contents m p → KeepsHeld contents m p p
  held_none p b = record { belongs = b; same = record { keeps = pass_none p; upto = refl; published = refl; torn = refl; unentered = refl }; tokens = refl; locks = λ f. refl }

  pub held_on : (p u q : PassState) → KeepsHeld contents m p u → KeepsHeld contents m u q → KeepsHeld contents m p q
  held_on p u q a b = record { belongs = b.belongs; same = same_on p u q a.same b.same; tokens = b.tokens ∙ a.tokens; locks = λ f. b.locks f ∙ a.locks f }

  -- a content lock that is taken and given up again
  pub held_relocked : (lock : Content) (pinned given : Pinned) (p u q : PassState) → given ≡ pinned → HasLock Unlocked pinned.frame p → Belongs contents m q → SamePass p u → SamePass u q → u.tokens ≡ p.tokens → q.tokens ≡ u.tokens
      → ChangesLock lock pinned.frame p u → ChangesLock Unlocked given.frame u q → KeepsHeld contents m p q
  held_relocked lock pinned given p u q e none b before after first last takes gives = let back : ChangesLock Unlocked pinned.frame u q = subst (λ (x : Pinned). ChangesLock Unlocked x.frame u q) e gives in record {
    belongs = b;
    same = same_on p u q before after;
    tokens = last ∙ first;
    locks = λ f. dite (ℕ_discrete f pinned.frame)
        (λ same. subst (λ (x : ℕ). (link q.view x).content ≡ (link p.view x).content) (sym same) (back.here ∙ sym none))
        (λ n. ap (λ (l : Link). l.content) (back.others f n ∙ takes.others f n));
  }

  -- calls between a pin and its release
  pub held_pinned : (pinned given : Pinned) (p u v q : PassState) → given ≡ pinned → SamePass p u → KeepsLocks p u → tokens_less pinned.frame u.tokens ≡ p.tokens → KeepsHeld contents m u v → Belongs contents m q → SamePass v q → q.tokens ≡ tokens_less given.frame v.tokens → KeepsLocks v q → KeepsHeld contents m p q
  held_pinned pinned given p u v q e same locks back r b last spent kept = record {
    belongs = b;
    same = same_on p v q (same_on p u v same r.same) last;
    tokens = subst (λ (x : Pinned). q.tokens ≡ tokens_less x.frame v.tokens) e spent ∙ ap (tokens_less pinned.frame) r.tokens ∙ back;
    locks = λ f. kept f ∙ r.locks f ∙ locks f;
  }

  -- a pin and its release
  pub held_released : (pinned : Pinned) (p u q : PassState) → SamePass p u → KeepsLocks p u → tokens_less pinned.frame u.tokens ≡ p.tokens → Belongs contents m q → SamePass u q → q.tokens ≡ tokens_less pinned.frame u.tokens → KeepsLocks u q → KeepsHeld contents m p q
  held_released pinned p u q same locks back b last spent kept = record { belongs = b; same = same_on p u q same last; tokens = spent ∙ back; locks = λ f. kept f ∙ locks f }

  -- a token that is given back
  pub gives_one : (f : ℕ) (p u q : PassState) → KeepsHeld contents m p u → Belongs contents m q → SamePass u q → q.tokens ≡ tokens_less f u.tokens → KeepsLocks u q → GivesOneBack contents m f p q
  gives_one f p u q r b last spent kept = record { belongs = b; same = same_on p u q r.same last; tokens = spent ∙ ap (tokens_less f) r.tokens; locks = λ g. kept g ∙ r.locks g }

  -- and of a frame f that was pinned before that, a token is given back after it
  pub gives_beside_token : (tag : Tag) (f h : ℕ) (u v : PassState) → f ≢ h → GivesOneBack contents m h u v → IsPinnedFor tag f u.tokens → IsPinnedFor tag f v.tokens
  gives_beside_token tag f h u v n w pinned = pinned_still tag f u.tokens v.tokens (ap (λ (t : Tokens). held_at t f) w.tokens ∙ less_others u.tokens h f n) pinned

  pub gives_beside_unlocked : (f h : ℕ) (u v : PassState) → f ≢ h → GivesOneBack contents m h u v → (tokens_of (held_at u.tokens f) ≡ 1 → HasLock Unlocked f u) → tokens_of (held_at v.tokens f) ≡ 1 → HasLock Unlocked f v
  gives_beside_unlocked f h u v n w last one = w.locks f ∙ last (sym (ap tokens_of (ap (λ (t : Tokens). held_at t f) w.tokens ∙ less_others u.tokens h f n)) ∙ one)

  pub gives_beside : (f h : ℕ) (p u v q : PassState) → f ≢ h → SamePass p u → KeepsLocks p u → tokens_less f u.tokens ≡ p.tokens → GivesOneBack contents m h u v → Belongs contents m q → SamePass v q → q.tokens ≡ tokens_less f v.tokens → KeepsLocks v q → GivesOneBack contents m h p q
  gives_beside f h p u v q n same locks back w b last spent kept = record {
    belongs = b;
    same = same_on p v q (same_on p u v same w.same) last;
    tokens = spent ∙ ap (tokens_less f) w.tokens ∙ less_both u.tokens f h n ∙ ap (tokens_less h) back;
    locks = λ g. kept g ∙ w.locks g ∙ locks g;
  }
