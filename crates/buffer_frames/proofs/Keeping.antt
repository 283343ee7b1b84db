-- What steps keep of a view between two calls.
use Rattle.std.proofs.Common.{◌≡◌, ◌≢◌, ℕ, List, Option, Some, None, get_or, refl, sym, ap, ◌∙◌, subst}
use Rattle.std.specs.Prelude.{option_map}
use mathlib.Core.Logic.{dite}
use native.Mathlib.Decide.{ℕ_discrete}
use Rattle.atomic_table.specs.declared.shared.Seat.{Seat}
use Rattle.pin_core.specs.declared.view.Link.{Link}
use Rattle.pin_core.specs.declared.view.LaneHold.{LaneHold}
use Rattle.pin_core.specs.declared.view.PartitionHold.{PartitionHold}
use Rattle.pin_core.specs.declared.view.View.{View}
use Rattle.pin_core.specs.State.{link, no_lane, no_partition}
use Rattle.pin_core.proofs.Views.{link_same}
use Rattle.table_rule.specs.declared.value.Value.{Value}
use Rattle.frame_table.specs.declared.table.FrameTable.{FrameTable}
use Rattle.frame_table.specs.Seats.{Looked, SameSeat, SameSelf, Touches, self_of}
use Rattle.buffer_frames.specs.Tokens.{HeldFrame, Tokens, held_at, tokens_less, tokens_more, tokens_of, tokens_with}
use Rattle.buffer_frames.specs.Rests.{HasAtMostLock, HasNoDevice, HasNoLatch, HasOneLatch, LinkRests, LinksRest, LinksRestBeside, SameLocks, Stands, kept_by_calls, role_of}
use Rattle.buffer_frames.proofs.HeldLists.{less_others, less_tag, more_tags, none_of, with_here, with_past}

-- loads at a frame
pub calm_looked : (l m : Link) → Looked l m → HasAtMostLock l → HasAtMostLock m
calm_looked l m a c = record { no_header = a.header ∙ c.no_header; assigned = a.pending ∙ c.assigned; no_copy = a.copying ∙ c.no_copy; applied = a.unapplied ∙ c.applied; no_io = a.io ∙ c.no_io; page_home = a.out ∙ c.page_home; no_wait = a.waits c.no_wait }

pub link_looked : (o : Option HeldFrame) (l m : Link) → Looked l m → LinkRests o l → LinkRests o m
link_looked o l m a r = record { calm = calm_looked l m a r.calm; role = a.role ∙ r.role; tag = a.tag ∙ r.tag; seen = λ some. a.seen_valid (r.seen some); unlocked = λ none. a.content ∙ r.unlocked none }

pub beside_looked : (f : ℕ) (t : Tokens) (v w : View) → ((g : ℕ) → g ≢ f → Looked (link v g) (link w g)) → LinksRestBeside f t v → LinksRestBeside f t w
beside_looked f t v w looked r g n = link_looked (held_at t g) (link v g) (link w g) (looked g n) (r g n)

-- a step at the frame f leaves the others
pub beside_kept : (f : ℕ) (t : Tokens) (v w : View) → ((g : ℕ) → g ≢ f → link w g ≡ link v g) → LinksRestBeside f t v → LinksRestBeside f t w
beside_kept f t v w same r g n = subst (LinkRests (held_at t g)) (sym (same g n)) (r g n)

pub beside_touched : (f : ℕ) (t : Tokens) (v w : View) → Touches f v w → LinksRestBeside f t v → LinksRestBeside f t w
beside_touched f t v w k r = beside_kept f t v w k.others r

-- all frames are those beside f, and f
pub beside : (f : ℕ) (t : Tokens) (v : View) → LinksRest t v → LinksRestBeside f t v
beside f t v r g n = r g

pub rests_with : (f : ℕ) (t : Tokens) (v : View) → LinksRestBeside f t v → LinkRests (held_at t f) (link v f) → LinksRest t v
rests_with f t v r here g = dite (ℕ_discrete g f) (λ e. subst (λ (x : ℕ). LinkRests (held_at t x) (link v x)) (sym e) here) (λ n. r g n)

-- a step at f that leaves f as it rests
pub rests_touched : (f : ℕ) (t : Tokens) (v w : View) → Touches f v w → LinkRests (held_at t f) (link w f) → LinksRest t v → LinksRest t w
rests_touched f t v w k here r = rests_with f t w (beside_touched f t v w k (beside f t v r)) here

pub rests_looked : (f : ℕ) (t : Tokens) (v w : View) → Touches f v w → Looked (link v f) (link w f) → LinksRest t v → LinksRest t w
rests_looked f t v w k a r = rests_touched f t v w k (link_looked (held_at t f) (link v f) (link w f) a (r f)) r

pub links_same : (t : Tokens) (v w : View) → w.links ≡ v.links → LinksRest t v → LinksRest t w
links_same t v w e r g = subst (LinkRests (held_at t g)) (sym (link_same v w e g)) (r g)

-- Content locks are as they were: over no step, and over steps one after another
pub same_locks_none : (v : View) → SameLocks v v
same_locks_none v f = refl

pub same_locks_on : (v u w : View) → SameLocks v u → SameLocks u w → SameLocks v w
same_locks_on v u w a b f = b f ∙ a f

-- over steps at the frame f that leave the lock there as it was
pub same_locks_at : (f : ℕ) (v w : View) → ((g : ℕ) → g ≢ f → link w g ≡ link v g) → (link w f).content ≡ (link v f).content → SameLocks v w
same_locks_at f v w others here g = dite (ℕ_discrete g f) (λ e. subst (λ (x : ℕ). (link w x).content ≡ (link v x).content) (sym e) here) (λ n. ap (λ (l : Link). l.content) (others g n))

-- over loads, and in a view with the same links
pub same_locks_looked : (v w : View) → ((g : ℕ) → Looked (link v g) (link w g)) → SameLocks v w
same_locks_looked v w looked f = (looked f).content

pub same_locks_linked : (v w : View) → w.links ≡ v.links → SameLocks v w
same_locks_linked v w e f = ap (λ (l : Link). l.content) (link_same v w e f)

-- and with the same latches of partitions
pub latches_same : (v w : View) → w.partitions ≡ v.partitions → HasNoLatch v → HasNoLatch w
latches_same v w e r p = ap (λ (l : List PartitionHold). get_or l p no_partition) e ∙ r p

pub latch_same : (p : ℕ) (v w : View) → w.partitions ≡ v.partitions → HasOneLatch p v → HasOneLatch p w
latch_same p v w e r = let same = λ (q : ℕ). ap (λ (l : List PartitionHold). get_or l q no_partition) e in record {
  held = ap (λ (h : PartitionHold). h.held) (same p) ∙ r.held;
  home = ap (λ (h : PartitionHold). h.out) (same p) ∙ r.home;
  no_change = ap (λ (h : PartitionHold). h.change) (same p) ∙ r.no_change;
  others = λ q n. same q ∙ r.others q n;
}

-- devices
pub devices_same : (v w : View) → w.emptied ≡ v.emptied → w.lanes ≡ v.lanes → w.sizes ≡ v.sizes → w.log ≡ v.log → HasNoDevice v → HasNoDevice w
devices_same v w live lanes sizes log d = record {
  live = live ∙ d.live;
  free = λ n. ap (λ (l : List LaneHold). (get_or l n no_lane).held) lanes ∙ d.free n;
  home = λ n. ap (λ (l : List LaneHold). (get_or l n no_lane).out) lanes ∙ d.home n;
  sizes = sizes ∙ d.sizes;
  log = log ∙ d.log;
}

pub devices_self : (v w : View) → SameSelf v w → HasNoDevice v → HasNoDevice w
devices_self v w e = devices_same v w (ap (λ (x : View). x.emptied) e) (ap (λ (x : View). x.lanes) e) (ap (λ (x : View). x.sizes) e) (ap (λ (x : View). x.log) e)

pub devices_touched : (f : ℕ) (v w : View) → Touches f v w → HasNoDevice v → HasNoDevice w
devices_touched f v w k = devices_self v w k.self

-- what a call keeps of a view
pub kept_self : (v w : View) → SameSelf v w → w.dirtied_or_synced ≡ v.dirtied_or_synced → kept_by_calls w ≡ kept_by_calls v
kept_self v w e m = ap (λ (x : View). kept_by_calls x) both
  where
    both : record (self_of w) { dirtied_or_synced = w.dirtied_or_synced } ≡ record (self_of v) { dirtied_or_synced = v.dirtied_or_synced }
    both k = record (e k) { dirtied_or_synced = m k }

-- a seat
pub stands_on : {L G : Type 0} (t : FrameTable L G) (s s' : Seat (Value L G) View) → SameSeat s s' → HasNoDevice s'.me.0 → Stands t s → Stands t s'
stands_on t s s' same quiet k = record { fits = same.table ∙ k.fits; hand = same.hand ∙ k.hand; quiet = quiet }

pub stands_self : {L G : Type 0} (t : FrameTable L G) (s s' : Seat (Value L G) View) → SameSeat s s' → SameSelf s.me.0 s'.me.0 → Stands t s → Stands t s'
stands_self t s s' same e k = stands_on t s s' same (devices_self s.me.0 s'.me.0 e k.quiet) k

-- what callers have of a frame counts by its tag alone
pub link_alike : (o p : Option HeldFrame) (l : Link) → option_map HeldFrame.tag p ≡ option_map HeldFrame.tag o → LinkRests o l → LinkRests p l
link_alike o p l same r = record {
  calm = r.calm;
  role = r.role ∙ role_alike o p same;
  tag = r.tag ∙ sym same;
  seen = λ some. r.seen (λ none. some (none_of p (same ∙ ap (option_map HeldFrame.tag) none)));
  unlocked = λ none. r.unlocked (none_of o (sym same ∙ ap (option_map HeldFrame.tag) none));
}
  where
    role_alike : (o p : Option HeldFrame) → option_map HeldFrame.tag p ≡ option_map HeldFrame.tag o → role_of o ≡ role_of p
    role_alike None None e = refl
    role_alike (Some h) (Some k) e = refl
    role_alike None (Some k) e = cc
    role_alike (Some h) None e = cc

-- one more token of a frame that is pinned, and one less that isn't the last
pub rests_more : (f : ℕ) (t : Tokens) (v : View) → LinksRest t v → LinksRest (tokens_more f t) v
rests_more f t v r g = link_alike (held_at t g) (held_at (tokens_more f t) g) (link v g) (more_tags t f g) (r g)

pub rests_less : (f : ℕ) (t : Tokens) (v : View) → tokens_of (held_at t f) ≢ 1 → LinksRest t v → LinksRest (tokens_less f t) v
rests_less f t v more r g = dite (ℕ_discrete g f)
    (λ e. subst (λ (x : ℕ). LinkRests (held_at (tokens_less f t) x) (link v x)) (sym e) (link_alike (held_at t f) (held_at (tokens_less f t) f) (link v f) (less_tag t f more) (r f)))
    (λ n. subst (λ (o : Option HeldFrame). LinkRests o (link v g)) (sym (less_others t f g n)) (r g))

-- the last one, where the pin is given up
pub beside_less : (f : ℕ) (t : Tokens) (v : View) → LinksRestBeside f t v → LinksRestBeside f (tokens_less f t) v
beside_less f t v r g n = subst (λ (o : Option HeldFrame). LinkRests o (link v g)) (sym (less_others t f g n)) (r g n)

pub rests_without : (f : ℕ) (t : Tokens) (v : View) → held_at (tokens_less f t) f ≡ None → LinksRestBeside f t v → LinkRests None (link v f) → LinksRest (tokens_less f t) v
rests_without f t v none r here = rests_with f (tokens_less f t) v (beside_less f t v r) (subst (λ (o : Option HeldFrame). LinkRests o (link v f)) (sym none) here)

-- and the first token of a new pin
pub rests_more_pinned : (f tag : ℕ) (t : Tokens) (v : View) → held_at t f ≡ None → LinksRestBeside f t v → LinkRests (Some (record { frame = f; tag = tag; tokens = 1 })) (link v f) → LinksRest (tokens_with f tag t) v
rests_more_pinned f tag t v none r here = rests_with f (tokens_with f tag t) v
    (λ g n. subst (λ (o : Option HeldFrame). LinkRests o (link v g)) (sym (with_past t (record { frame = f; tag = tag; tokens = 1 }) g n)) (r g n))
    (subst (λ (o : Option HeldFrame). LinkRests o (link v f)) (sym (with_here t (record { frame = f; tag = tag; tokens = 1 }) f refl none)) here)
