-- A pass takes its seat out of its badge and puts it back, and is the same pass then.
use Rattle.std.proofs.Common.{◌≡◌, [], ◌∷◌, None, sym, subst, ◌∙◌}
use Rattle.atomic_table.specs.declared.badge.Badge.{Badge}
use Rattle.atomic_table.specs.declared.shared.Seat.{Seat}
use Rattle.pin_core.specs.declared.view.View.{View}
use Rattle.table_rule.specs.declared.value.Value.{Value}
use Rattle.frame_table.specs.declared.table.FrameTable.{FrameTable}
use Rattle.frame_table.specs.Seats.{OnlyRises, SameSeat}
use Rattle.buffer_frames.specs.Keeps.{Keeps}
use Rattle.buffer_frames.specs.Rests.{HasNoDevice, HasNoLatch, OnlyTokens, SameLocks}
use Rattle.buffer_frames.specs.Tokens.{Tokens}
use Rattle.backend_pass.specs.Passes.{PassState, SameButTorn, SameButUnentered, SamePass, view_in}
use Rattle.backend_pass.specs.Seats.{IsSeatOf}
use Rattle.backend_pass.proofs.Keeping.{pass_on}

pub same_on : (p q r : PassState) → SamePass p q → SamePass q r → SamePass p r
same_on p q r a b = record { keeps = pass_on p q r a.keeps b.keeps; upto = b.upto ∙ a.upto; published = b.published ∙ a.published; torn = b.torn ∙ a.torn; unentered = b.unentered ∙ a.unentered }

pub same_from : (a p q : PassState) → p ≡ a → SamePass p q → SamePass a q
same_from a p q e same = subst (λ (x : PassState). SamePass x q) e same

-- it is the same one but for the blocks that it noted as unentered
pub but_unentered : (p q : PassState) → SamePass p q → SameButUnentered p q
but_unentered p q s = record { keeps = s.keeps; upto = s.upto; published = s.published; torn = s.torn }

pub unentered_on : (p q r : PassState) → SameButUnentered p q → SameButUnentered q r
    → SameButUnentered p r
unentered_on p q r a b = record {
  keeps = pass_on p q r a.keeps b.keeps;
  upto = b.upto ∙ a.upto;
  published = b.published ∙ a.published;
  torn = b.torn ∙ a.torn;
}

-- the same pass again if it noted none
pub same_unentered : (p q : PassState) → SameButUnentered p q
    → q.view.unentered ≡ p.view.unentered → SamePass p q
same_unentered p q s none = record {
  keeps = s.keeps;
  upto = s.upto;
  published = s.published;
  torn = s.torn;
  unentered = none;
}

-- it is the same one but for the records that it failed to append, and the blocks that it noted
pub but_torn : (p q : PassState) → SamePass p q → SameButTorn p q
but_torn p q s = record { keeps = s.keeps; upto = s.upto; published = s.published }

pub but_torn_unentered : (p q : PassState) → SameButUnentered p q → SameButTorn p q
but_torn_unentered p q s = record { keeps = s.keeps; upto = s.upto; published = s.published }

pub torn_on : (p q r : PassState) → SameButTorn p q → SameButTorn q r → SameButTorn p r
torn_on p q r a b = record { keeps = pass_on p q r a.keeps b.keeps; upto = b.upto ∙ a.upto; published = b.published ∙ a.published }

pub put_from : (a p q : PassState) → p ≡ a → SameButTorn p q → SameButTorn a q
put_from a p q e same = subst (λ (x : PassState). SameButTorn x q) e same

-- what holds of views holds of those that are they
pub moved : (P : View → View → Type 0) (a b v w : View) → a ≡ v → b ≡ w → P v w → P a b
moved P a b v w x y p = subst (λ (z : View). P z b) (sym x) (subst (P v) (sym y) p)

pub moved_one : (P : View → Type 0) (b w : View) → b ≡ w → P w → P b
moved_one P b w y p = subst P (sym y) p

-- The badge is that of the same seat, with one view again
pub record SameBadge (b d : Badge View) : Type 0 where
  pub table : d.table_id ≡ b.table_id
  pub id : d.id ≡ b.id
  pub one : d.views ≡ view_in d.views ∷ []

-- What a call keeps that works with the seat of a badge: all of the view but what `but` leaves out
-- of it, the content locks, and what only rises. No latch is held then
pub record KeepsBadge (but : View → View) (b d : Badge View) : Type 0 where
  pub badge : SameBadge b d
  pub quiet : HasNoDevice (view_in d.views)
  pub latches : HasNoLatch (view_in d.views)
  pub same : but (view_in d.views) ≡ but (view_in b.views)
  pub rises : OnlyRises (view_in b.views) (view_in d.views)
  pub locks : SameLocks (view_in b.views) (view_in d.views)

-- What a call did that worked with the seat of the badge b, and left it in the badge d
pub record Worked (D : View → View → Type 0) (held : Tokens) (b d : Badge View) : Type 0 where
  pub badge : SameBadge b d
  pub rests : OnlyTokens held (view_in d.views)
  pub did : D (view_in b.views) (view_in d.views)

module _ {L G : Type 0} (b d : Badge View) (s t : Seat (Value L G) View) (taken : IsSeatOf b s)
    (same : SameSeat s t) (back : IsSeatOf d t) where
  pub same_badge : SameBadge b d
  same_badge = record {
    table = sym back.table ∙ same.table ∙ taken.table;
    id = sym back.id ∙ same.id ∙ taken.id;
    one = back.one;
  }

  -- a call that keeps this of the seat keeps it of the badge
  pub keeps_badge : (but : View → View) {f : FrameTable L G} → Keeps but None f s t
      → KeepsBadge but b d
  keeps_badge but k = record {
    badge = same_badge;
    quiet = moved_one HasNoDevice (view_in d.views) t.me.0 back.view k.stands.quiet;
    latches = moved_one HasNoLatch (view_in d.views) t.me.0 back.view k.latches;
    same = moved (λ v w. but w ≡ but v) (view_in b.views)
        (view_in d.views) s.me.0 t.me.0 taken.view back.view k.same;
    rises = moved OnlyRises (view_in b.views)
        (view_in d.views) s.me.0 t.me.0 taken.view back.view k.rises;
    locks = moved SameLocks (view_in b.views)
        (view_in d.views) s.me.0 t.me.0 taken.view back.view k.locks;
  }

  pub worked : (D : View → View → Type 0) (held : Tokens) → OnlyTokens held t.me.0 → D s.me.0 t.me.0
      → Worked D held b d
  worked D held rests did = record {
    badge = same_badge;
    rests = moved_one (OnlyTokens held) (view_in d.views) t.me.0 back.view rests;
    did = moved D (view_in b.views) (view_in d.views) s.me.0 t.me.0 taken.view back.view did;
  }
