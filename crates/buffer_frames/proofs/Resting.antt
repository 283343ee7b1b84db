-- A view between two calls that has no tokens.
use Rattle.std.proofs.Common.{ℕ, None, refl, sym, ap, subst}
use Rattle.pin_core.specs.declared.view.LaneHold.{LaneHold}
use Rattle.pin_core.specs.declared.view.LogHold.{LogHold}
use Rattle.pin_core.specs.declared.view.PartitionHold.{PartitionHold}
use Rattle.pin_core.specs.declared.view.View.{View}
use Rattle.pin_core.specs.State.{idle, new_view, no_lane, no_partition}
use Rattle.pin_core.specs.Steps.{HoldsNothing}
use Rattle.frame_table.proofs.Resting.{same_all}
use Rattle.buffer_frames.specs.Rests.{LinkRests, OnlyTokens}
use Rattle.buffer_frames.specs.Tokens.{no_tokens}

idle_rests : LinkRests None idle
idle_rests = record {
  calm = record { no_header = refl; assigned = refl; no_copy = refl; applied = refl; no_io = refl; page_home = refl; no_wait = refl };
  role = refl;
  tag = refl;
  seen = λ some. absurd (some refl);
  unlocked = λ none. refl;
}

-- so is a new view
pub new_has_no_tokens : (number base frames partitions lanes : ℕ) → OnlyTokens no_tokens (new_view number base frames partitions lanes)
new_has_no_tokens number base frames partitions lanes = record {
  quiet = record {
    live = refl;
    free = λ n. ap (λ (h : LaneHold). h.held) (same_all lanes n no_lane);
    home = λ n. ap (λ (h : LaneHold). h.out) (same_all lanes n no_lane);
    sizes = refl;
    log = refl;
  };
  links = λ f. subst (LinkRests None) (sym (same_all frames f idle)) idle_rests;
  latches = λ p. same_all partitions p no_partition;
}

-- it holds nothing
pub rests_hold_nothing : (v : View) → OnlyTokens no_tokens v → HoldsNothing v
rests_hold_nothing v r = record {
  frames = λ f. let l = r.links f in record { no_pin = l.role; no_header = l.calm.no_header; no_content = l.unlocked refl; no_io = l.calm.no_io; page_home = l.calm.page_home; no_wait = l.calm.no_wait };
  partitions = λ p. ap (λ (h : PartitionHold). h.held) (r.latches p);
  lanes = r.quiet.free;
  sizes = r.quiet.sizes;
  log = ap (λ (h : LogHold). h.held) r.quiet.log;
}
