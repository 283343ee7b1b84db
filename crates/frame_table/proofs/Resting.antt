-- Views that hold nothing.
use Rattle.std.proofs.Common.{◌≡◌, ℕ, zero, suc, ◌+◌, Bool, List, [], replicate, get_or, sym, refl, ap, ◌∙◌, subst}
use mathlib.Core.Logic.{dite}
use native.Mathlib.Decide.{ℕ_discrete}
use Rattle.pin_core.specs.declared.view.Link.{Link}
use Rattle.pin_core.specs.declared.view.PartitionHold.{PartitionHold}
use Rattle.pin_core.specs.declared.view.LaneHold.{LaneHold}
use Rattle.pin_core.specs.declared.view.View.{View}
use Rattle.pin_core.specs.State.{link, idle, no_partition, no_lane, first_view, new_view}
use Rattle.pin_core.specs.Steps.{HoldsNothing, HoldsNothingAt}
use Rattle.atomic_table.specs.declared.shared.Seat.{Seat}
use Rattle.atomic_table.specs.Table.{Me}
use Rattle.pin_core.specs.declared.view.Role.TheVariants.{Absent, HandedOut}
use Rattle.table_rule.specs.declared.opening.Opening.{Opening}
use Rattle.table_rule.specs.declared.value.Value.{Value}
use Rattle.table_rule.specs.Shows.{starting}
use Rattle.frame_table.specs.declared.table.FrameTable.{FrameTable}
use Rattle.frame_table.specs.Closes.{CanClose}
use Rattle.frame_table.specs.Seats.{MayUnpin, Fits, IsIdle, Looked, SameSeat, Touches, pinned_link, unpinned_link}

-- an item of a list of the same
pub same_all : {A : Type 0} (n i : ℕ) (x : A) → get_or (replicate n x) i x ≡ x
same_all zero i x = refl
same_all (suc n) zero x = refl
same_all (suc n) (suc i) x = same_all n i x

idle_free : HoldsNothingAt idle
idle_free = record { no_pin = refl; no_header = refl; no_content = refl; no_io = refl; page_home = refl; no_wait = refl }

-- a new view holds nothing, and so does the first one
pub new_rests : (number base frames partitions lanes : ℕ) → HoldsNothing (new_view number base frames partitions lanes)
new_rests number base frames partitions lanes = record {
  frames = λ f. subst HoldsNothingAt (sym (same_all frames f idle)) idle_free;
  partitions = λ p. ap (λ (h : PartitionHold). h.held) (same_all partitions p no_partition);
  lanes = λ n. ap (λ (h : LaneHold). h.held) (same_all lanes n no_lane);
  sizes = refl;
  log = refl;
}

-- and has nothing
pub first_idle : (base frames partitions lanes : ℕ) (v : View) → v ≡ first_view base frames partitions lanes → IsIdle v
first_idle base frames partitions lanes v e = subst IsIdle (sym e) record {
  links = λ f. same_all frames f idle;
  holds = λ p. same_all partitions p no_partition;
  lanes = λ q. same_all lanes q no_lane;
  log = refl;
  live = refl;
}

pub first_rests : (base frames partitions lanes : ℕ) → HoldsNothing (first_view base frames partitions lanes)
first_rests base frames partitions lanes = let h = new_rests 0 base frames partitions lanes in record { frames = h.frames; partitions = h.partitions; lanes = h.lanes; sizes = h.sizes; log = h.log }

-- loads of a frame's word leave a link free
pub free_looked : (l m : Link) → Looked l m → HoldsNothingAt l → HoldsNothingAt m
free_looked l m a h = record { no_pin = a.role ∙ h.no_pin; no_header = a.header ∙ h.no_header; no_content = a.content ∙ h.no_content; no_io = a.io ∙ h.no_io; page_home = a.out ∙ h.page_home; no_wait = a.waits h.no_wait }

-- where a view holds nothing at other frames, and what it has at one is free, it holds nothing
pub rests_on : (f : ℕ) (v w : View) → Touches f v w → HoldsNothingAt (link w f) → HoldsNothing v → HoldsNothing w
rests_on f v w t here h = record {
  frames = λ g. dite (ℕ_discrete g f) (λ e. subst (λ (x : ℕ). HoldsNothingAt (link w x)) (sym e) here) (λ n. subst HoldsNothingAt (sym (t.others g n)) (h.frames g));
  partitions = λ p. ap (λ (l : List PartitionHold). (get_or l p no_partition).held) t.partitions ∙ h.partitions p;
  lanes = λ n. ap (λ (l : List LaneHold). (get_or l n no_lane).held) (ap (λ (x : View). x.lanes) t.self) ∙ h.lanes n;
  sizes = ap (λ (x : View). x.sizes) t.self ∙ h.sizes;
  log = ap (λ l. l.held) (ap (λ (x : View). x.log) t.self) ∙ h.log;
}

-- so it is after loads
pub rests_looked : (f : ℕ) (v w : View) → Touches f v w → Looked (link v f) (link w f) → HoldsNothing v → HoldsNothing w
rests_looked f v w t a h = rests_on f v w t (free_looked (link v f) (link w f) a (h.frames f)) h

-- A seat that may close the table, at the start and after calls that leave it holding nothing
module _ {L G : Type 0} (t : FrameTable L G) where
  pub closes_at_start : (s : Seat (Value L G) View) → Fits t s → s.id ≡ 0 → s.me ≡ (starting t.table.shared.key, []) → CanClose t s
  closes_at_start s fits first me = let o : Opening L G = t.table.shared.key in let v : View = starting o in let same : s.me.0 ≡ v = ap (λ (m : Me (Value L G) View). m.0) me in record {
    fits = fits;
    first = first;
    hand = ap (λ (m : Me (Value L G) View). m.1) me;
    live = ap (λ (x : View). x.emptied) same;
    free = subst HoldsNothing (sym same) (first_rests o.base o.config.frames 128 o.config.lanes);
    joined = ap (λ (x : View). x.joined + 1) same ∙ sym (ap (λ (x : View). x.next) same);
  }

  pub closes_on : (s s' : Seat (Value L G) View) (f : ℕ) → CanClose t s → SameSeat s s' → Touches f s.me.0 s'.me.0 → HoldsNothingAt (link s'.me.0 f) → CanClose t s'
  closes_on s s' f c same touches free = record {
    fits = same.table ∙ c.fits;
    first = same.id ∙ c.first;
    hand = same.hand ∙ c.hand;
    live = ap (λ (x : View). x.emptied) touches.self ∙ c.live;
    free = rests_on f s.me.0 s'.me.0 touches free c.free;
    joined = ap (λ (n : ℕ). n + 1) (ap (λ (x : View). x.joined) touches.self) ∙ c.joined ∙ sym (ap (λ (x : View). x.next) touches.self);
  }

-- a pin that was taken and given up leaves nothing
pub free_unpinned : (ring : Bool) (l m n : Link) → Looked (pinned_link ring l) m → Looked (unpinned_link m) n → HoldsNothingAt l → HoldsNothingAt n
free_unpinned ring l m n a b h = record { no_pin = b.role; no_header = b.header ∙ a.header ∙ h.no_header; no_content = b.content ∙ a.content ∙ h.no_content; no_io = b.io ∙ a.io ∙ h.no_io; page_home = b.out ∙ a.out ∙ h.page_home; no_wait = b.waits (a.waits h.no_wait) }

pub can_unpin : (ring : Bool) (l m : Link) → Looked (pinned_link ring l) m → HoldsNothingAt l → MayUnpin m
can_unpin ring l m a h = record { pinned = λ e. let no : HandedOut ≡ Absent = sym a.role ∙ e in absurd (cc); no_content = a.content ∙ h.no_content; no_io = a.io ∙ h.no_io; no_wait = a.waits h.no_wait }
