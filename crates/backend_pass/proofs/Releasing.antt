-- A token comes back.
use Rattle.std.proofs.Common.{◌≡◌, ◌≢◌, ℕ, Option, Some, None, refl, sym, ap, ◌∙◌, subst, true, arith}
use Rattle.std.specs.Prelude.{option_map, ◌≤◌}
use Rattle.std.proofs.lemmas.Option.{none-some, same_Some}
use mathlib.Core.Logic.{dite}
use native.Mathlib.Decide.{ℕ_discrete}
use Rattle.pin_core.specs.declared.view.Content.TheVariants.{Unlocked}
use Rattle.pin_core.specs.declared.view.Link.{Link}
use Rattle.pin_core.specs.declared.view.Role.TheVariants.{HandedOut, Absent}
use Rattle.pin_core.specs.declared.view.View.{View}
use Rattle.pin_core.specs.State.{link}
use Rattle.segment_store.specs.Contents.{Pages}
use Rattle.frame_table.specs.Seats.{Looked, MayUnpin, OnlyRises, SameMarks, SameSelf, Touches, unpinned_link, base_of, relations_of}
use Rattle.buffer_frames.specs.Tokens.{HeldFrame, Tokens, held_at, tokens_less, tokens_more, tokens_of}
use Rattle.buffer_frames.specs.Rests.{HasAtMostLock, LinkRests, OnlyTokens, role_of}
use Rattle.buffer_frames.proofs.HeldLists.{less_others, less_tag, more_tags}
use Rattle.buffer_frames.proofs.Keeping.{beside, beside_touched, devices_touched, latches_same, link_looked, rests_less, rests_without}
use Rattle.frame_table.proofs.Rising.{rises_none, rises_touched}
use Rattle.clock_sweep.proofs.FreeLists.{list_same}
use Rattle.backend_pass.proofs.Owning.{beside_of, own_in}
use Rattle.backend_pass.specs.declared.manager.Manager.{Manager}
use Rattle.backend_pass.specs.declared.met.Shown.{Shown}
use Rattle.backend_pass.specs.Managers.{Belongs}
use Rattle.backend_pass.proofs.Fronts.{front_kept}
use Rattle.buffer_frames.specs.Outside.{shown_count}
use Rattle.backend_pass.specs.Passes.{IsNumbered, IsShown, KeepsDevices, PassState, SamePass, PassOwn, own_of}
use Rattle.table_rule.specs.Blocks.{is_block}

-- The pin of the frame f was given up
pub record Unpins (f : ℕ) (v w : View) : Type 0 where
  pub touches : Touches f v w
  pub marks : SameMarks v w
  pub unpinned : Looked (unpinned_link (link v f)) (link w f)

pub unpins_at : (f g : ℕ) (a b v w : View) → g ≡ f → a ≡ v → b ≡ w → Unpins g v w → Unpins f a b
unpins_at f g a b v w e x y u = subst (λ (h : ℕ). Unpins h a b) e (subst (λ (z : View). Unpins g z b) (sym x) (subst (Unpins g v) (sym y) u))

-- and so of anything between two views
pub moved_at : (P : ℕ → View → View → Type 0) (f g : ℕ) (a b v w : View) → g ≡ f → a ≡ v → b ≡ w → P g v w → P f a b
moved_at P f g a b v w e x y p = subst (λ (h : ℕ). P h a b) e (subst (λ (z : View). P g z b) (sym x) (subst (P g v) (sym y) p))

-- what the pin of a frame with tokens knows
pub saw_valid : (o : Option HeldFrame) (h : HeldFrame) (l : Link) → o ≡ Some h → LinkRests o l → l.seen_valid ≡ true
saw_valid o h l e r = r.seen (λ none. none-some h (sym none ∙ e))

pub knows_tag : (o : Option HeldFrame) (h : HeldFrame) (l : Link) → o ≡ Some h → LinkRests o l → l.tag ≡ Some h.tag
knows_tag o h l e r = r.tag ∙ ap (option_map HeldFrame.tag) e

-- a pin that rests may be given up once its content is unlocked
pub may_unpin : (o : Option HeldFrame) (h : HeldFrame) (l : Link) → o ≡ Some h → l.content ≡ Unlocked → LinkRests o l → MayUnpin l
may_unpin o h l e unlocked r = record {
  pinned = λ absent. handed (sym absent ∙ r.role ∙ ap (λ (x : Option HeldFrame). role_of x) e);
  no_content = unlocked;
  no_io = r.calm.no_io;
  no_wait = r.calm.no_wait;
}
  where
    handed : Absent ≡ HandedOut → ⊥
    handed e = cc

-- what is left rests
unpinned_rests : (l : Link) → HasAtMostLock l → l.content ≡ Unlocked → LinkRests None (unpinned_link l)
unpinned_rests l c unlocked = record {
  calm = record { no_header = c.no_header; assigned = c.assigned; no_copy = c.no_copy; applied = c.applied; no_io = c.no_io; page_home = c.page_home; no_wait = c.no_wait };
  role = refl;
  tag = refl;
  seen = λ some. absurd (some refl);
  unlocked = λ none. unlocked;
}

pub rests_unpinned : (f : ℕ) (t : Tokens) (v w : View) → Unpins f v w → (link v f).content ≡ Unlocked → held_at (tokens_less f t) f ≡ None → OnlyTokens t v → OnlyTokens (tokens_less f t) w
rests_unpinned f t v w u unlocked none r = record {
  quiet = devices_touched f v w u.touches r.quiet;
  links = rests_without f t w none (beside_touched f t v w u.touches (beside f t v r.links)) (link_looked None (unpinned_link (link v f)) (link w f) u.unpinned (unpinned_rests (link v f) (r.links f).calm unlocked));
  latches = latches_same v w u.touches.partitions r.latches;
}

pub rests_fewer : (f : ℕ) (t : Tokens) (v : View) → tokens_of (held_at t f) ≢ 1 → OnlyTokens t v → OnlyTokens (tokens_less f t) v
rests_fewer f t v more r = record { quiet = r.quiet; links = rests_less f t v more r.links; latches = r.latches }

-- the number, and what is shown
pub numbered_self : (number id : ℕ) (v w : View) → SameSelf v w → IsNumbered number id v → IsNumbered number id w
numbered_self number id v w e n = record { number_is = ap (λ (x : View). x.number) e ∙ n.number_is; first = n.first }

pub shown_self : (v w : View) (s : Shown) → SameSelf v w → IsShown v s → IsShown w s
shown_self v w s e n = record {
  front = n.front ∙ sym (ap (λ (x : View). x.front) e);
  reads = n.reads ∙ ap (λ (x : View). shown_count x.met.reads) (sym e);
  writes = n.writes ∙ ap (λ (x : View). shown_count x.met.writes) (sym e);
  logs = n.logs ∙ ap (λ (x : View). shown_count x.met.logs) (sym e);
}

-- no device was called, and nothing counted
pub devices_self : (p q : PassState) → SameSelf p.view q.view → q.io ≡ p.io → KeepsDevices p q
devices_self p q e io = record { device_calls = ap (λ (x : View). x.device_calls) e; met = ap (λ (x : View). x.met) e; io = io }

pub devices_from : (a p q : PassState) → p ≡ a → KeepsDevices p q → KeepsDevices a q
devices_from a p q e k = subst (λ (x : PassState). KeepsDevices x q) e k

-- it is the same pass
pub same_none : (p q : PassState) → q.table ≡ p.table → q.id ≡ p.id → beside_of q ≡ beside_of p → q.view ≡ p.view → SamePass p q
same_none p q table id census e = record {
  keeps = record {
    table = table;
    id = id;
    own = ap own_in census;
    number = ap (λ (x : View). x.number) e;
    next = ap (λ (x : View). x.next) e;
    joined = ap (λ (x : View). x.joined) e;
    kept = ap (λ (x : View). x.joined_checkpoints) e;
    advances = subst (λ (w : View). OnlyRises p.view w) (sym e) (rises_none p.view);
  };
  upto = ap (λ (x : View). x.upto) e;
  published = ap (λ (x : View). x.published) e;
  torn = ap (λ (x : View). x.torn) e;
  unentered = ap (λ (x : View). x.unentered) e;
}

pub same_touched : (p q : PassState) (f : ℕ) → q.table ≡ p.table → q.id ≡ p.id → beside_of q ≡ beside_of p → Touches f p.view q.view → SamePass p q
same_touched p q f table id census k = let e = k.self in record {
  keeps = record {
    table = table;
    id = id;
    own = ap own_in census;
    number = ap (λ (x : View). x.number) e;
    next = ap (λ (x : View). x.next) e;
    joined = ap (λ (x : View). x.joined) e;
    kept = ap (λ (x : View). x.joined_checkpoints) e;
    advances = rises_touched f p.view q.view k;
  };
  upto = ap (λ (x : View). x.upto) e;
  published = ap (λ (x : View). x.published) e;
  torn = ap (λ (x : View). x.torn) e;
  unentered = ap (λ (x : View). x.unentered) e;
}

-- The tokens u are of frames that are held in t, for the same blocks
abbrev pub AreHeld : Tokens → Tokens → Type 0
AreHeld t u = (g : ℕ) (h : HeldFrame) → held_at u g ≡ Some h → (k : HeldFrame) × (held_at t g ≡ Some k) × (k.tag ≡ h.tag)

tag_held : (o p : Option HeldFrame) (h : HeldFrame) → option_map HeldFrame.tag p ≡ option_map HeldFrame.tag o → p ≡ Some h → (k : HeldFrame) × (o ≡ Some k) × (k.tag ≡ h.tag)
tag_held (Some k) p h same e = (k, refl, same_Some k.tag h.tag (sym same ∙ ap (option_map HeldFrame.tag) e))
tag_held None p h same e = absurd (none-some h.tag (sym same ∙ ap (option_map HeldFrame.tag) e))

pub held_last : (f : ℕ) (t : Tokens) → held_at (tokens_less f t) f ≡ None → AreHeld t (tokens_less f t)
held_last f t none g h e = dite (ℕ_discrete g f)
    (λ d. absurd (none-some h (sym (ap (held_at (tokens_less f t)) d ∙ none) ∙ e)))
    (λ n. (h, sym (less_others t f g n) ∙ e, refl))

pub held_several : (f : ℕ) (t : Tokens) → tokens_of (held_at t f) ≢ 1 → AreHeld t (tokens_less f t)
held_several f t more g h e = dite (ℕ_discrete g f)
    (λ d. tag_held (held_at t g) (held_at (tokens_less f t) g) h (subst (λ (x : ℕ). option_map HeldFrame.tag (held_at (tokens_less f t) x) ≡ option_map HeldFrame.tag (held_at t x)) (sym d) (less_tag t f more)) e)
    (λ n. (h, sym (less_others t f g n) ∙ e, refl))

pub held_again : (f : ℕ) (t : Tokens) → AreHeld t (tokens_more f t)
held_again f t g h e = tag_held (held_at t g) (held_at (tokens_more f t) g) h (more_tags t f g) e

module _ {L G : Type 0} (contents : L → Option Pages) (m : Manager L G) where
  pub belongs_held : (p q : PassState) → q.table ≡ p.table → own_of q ≡ own_of p → q.view.calls ≡ p.view.calls → q.view.front ≡ p.view.front → p.view.end_seen ≤ q.view.end_seen → AreHeld p.tokens q.tokens → Belongs contents m p → Belongs contents m q
  belongs_held p q table census calls front end held b = record {
    table = table ∙ b.table;
    frames = ap (λ (x : PassOwn). x.frames) census ∙ b.frames;
    queue = list_same m.table m.sweep p.queue q.queue b.queue (ap (λ (x : PassOwn). x.queue) census);
    inside = λ f h e. let k = held f h e in b.inside f k.0 k.1;
    blocks = λ f h e. let k = held f h e in subst (λ (x : ℕ). is_block (relations_of m.table) x ≡ true) k.2 (b.blocks f k.0 k.1);
    alone = λ f g h k e d same. let x = held f h e in let y = held g k d in b.alone f g x.0 y.0 x.1 y.1 (x.2 ∙ same ∙ sym y.2);
    sound = λ f h e tag same. let k = held f h e in b.sound f k.0 k.1 tag (same ∙ sym k.2);
    front = front_kept (base_of m.table) p.view q.view calls front b.front;
    seen = let base = b.seen in omega arith;
  }

  pub belongs_touched : (p q : PassState) (f : ℕ) → q.table ≡ p.table → own_of q ≡ own_of p → Touches f p.view q.view → AreHeld p.tokens q.tokens → Belongs contents m p → Belongs contents m q
  belongs_touched p q f table census k = belongs_held p q table census (ap (λ (x : View). x.calls) k.self) (ap (λ (x : View). x.front) k.self) (rises_touched f p.view q.view k).end_seen
