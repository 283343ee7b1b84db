use Rattle.std.proofs.Common.{◌∙◌, ap, subst, sym}
use Rattle.std.specs.Prelude.{is_some}
use Rattle.state_word.specs.declared.word.StateWord.{StateWord}
use Rattle.state_word.specs.Fields.{fields}
use Rattle.pin_core.specs.declared.view.Link.{Link}
use Rattle.pin_core.specs.State.{link}
use Rattle.frame_table.specs.Seats.{IsWordOf, Looked, locked_link, tag_word}
use Rattle.frame_table.proofs.Told.{touches_on}
use Rattle.buffer_frames.specs.Rests.{LinkRests}
use Rattle.buffer_frames.specs.Tokens.{held_at}
use Rattle.buffer_frames.proofs.HasTags.{kept_tag}
use Rattle.buffer_frames.proofs.Heading.{headless_rest}
use Rattle.buffer_frames.proofs.Inspections.{flagged_as, may_load_under, may_unlock, rests_loaded, still_held, still_settled}
use Rattle.buffer_frames.proofs.Keeping.{rests_touched, stands_self}
use Rattle.buffer_frames.proofs.Passing.{locked_as, rests_under}
use Rattle.buffer_frames.proofs.inspecting.inspect.Goals as goal

pub lock_header-requires-clause-headless : goal.lock_header-requires-clause-headless
lock_header-requires-clause-headless g c = headless_rest c.args._held.now c.args.seat.now.me.0 c.requires.rests

pub load_tag-tag-requires-clause-right : goal.load_tag-tag-requires-clause-right
load_tag-tag-requires-clause-right g c =
    let f = c.args.frame in
    let l = link c.args.seat.now.me.0 f in
    let m = link c.lock_header.new.seat.me.0 f in
    let n = link c.look-word.new.seat.me.0 f in
    may_load_under n.role n.header (still_held c.lock_header.result l m n c.lock_header.ensures.locked c.look-word.ensures.link)

pub unlock_header-requires-clause-held : goal.unlock_header-requires-clause-held
unlock_header-requires-clause-held g c =
    let f = c.args.frame in
    let l = link c.args.seat.now.me.0 f in
    let m = link c.lock_header.new.seat.me.0 f in
    let n = link c.look-word.new.seat.me.0 f in
    let a = c.lock_header.ensures.locked in
    let b = c.look-word.ensures.link in
    may_unlock c.load_tag-tag.result n (link c.load_tag-tag.new.seat.me.0 f) c.load_tag-tag.ensures.read (still_held c.lock_header.result l m n a b) (still_settled c.lock_header.result l m n a b (c.requires.rests f).calm.assigned)

pub returns-clause-stands : goal.returns-clause-stands
returns-clause-stands g c =
    let a = c.lock_header.ensures in
    let b = c.look-word.ensures in
    let d = c.load_tag-tag.ensures in
    let e = c.unlock_header.ensures in
    stands_self _ c.load_tag-tag.new.seat c.unlock_header.new.seat e.seat e.touches.self (stands_self _ c.look-word.new.seat c.load_tag-tag.new.seat d.seat d.touches.self (stands_self _ c.lock_header.new.seat c.look-word.new.seat b.seat b.touches.self (stands_self _ c.args.seat.now c.lock_header.new.seat a.seat a.touches.self c.requires.stands)))

pub returns-clause-touches : goal.returns-clause-touches
returns-clause-touches g c =
    let f = c.args.frame in
    let v = c.args.seat.now.me.0 in
    let u = c.lock_header.new.seat.me.0 in
    let x = c.look-word.new.seat.me.0 in
    let y = c.load_tag-tag.new.seat.me.0 in
    touches_on f v y c.unlock_header.new.seat.me.0 (touches_on f v x y (touches_on f v u x c.lock_header.ensures.touches c.look-word.ensures.touches) c.load_tag-tag.ensures.touches) c.unlock_header.ensures.touches

pub returns-clause-marks : goal.returns-clause-marks
returns-clause-marks g c = c.unlock_header.ensures.marks ∙ c.load_tag-tag.ensures.marks ∙ c.look-word.ensures.marks ∙ c.lock_header.ensures.marks

pub returns-clause-rests : goal.returns-clause-rests
returns-clause-rests g c =
    let f = c.args.frame in
    let t = c.args._held.now in
    let v = c.args.seat.now.me.0 in
    let l = link v f in
    let m = link c.lock_header.new.seat.me.0 f in
    let x = c.look-word.new.seat.me.0 in
    let y = c.load_tag-tag.new.seat.me.0 in
    let a = c.lock_header.ensures.locked in
    let b = c.look-word.ensures.link in
    let d = c.load_tag-tag.ensures in
    let r = c.requires.rests f in
    let under : Looked (locked_link c.look-word.result l) (link x f) = locked_as c.lock_header.result c.look-word.result l m (link x f) a b (c.look-word.ensures.word.held (fields c.lock_header.result) a.header) in
    rests_touched f t v c.unlock_header.new.seat.me.0 (returns-clause-touches g c)
    (subst (LinkRests (held_at t f)) (sym c.unlock_header.ensures.unlocked)
    (rests_loaded (held_at t f) c.load_tag-tag.result (link x f) (link y f) d.read (still_settled c.lock_header.result l m (link x f) a b r.calm.assigned) (λ known is. kept_tag f (tag_word c.load_tag-tag.result) known x y d.did is) d.settled (rests_under (held_at t f) c.look-word.result l (link x f) under r)))
    c.requires.rests

pub returns-clause-lock : goal.returns-clause-lock
returns-clause-lock g c = ap (λ (l : Link). l.content) c.unlock_header.ensures.unlocked ∙ ap (λ (l : Link). l.content) c.load_tag-tag.ensures.read ∙ c.look-word.ensures.link.content ∙ c.lock_header.ensures.locked.content

pub returns-clause-inspects : goal.returns-clause-inspects
returns-clause-inspects g c = let d = c.lock_header.ensures.did in record {
  under = c.lock_header.new.seat.me.0;
  looked = c.look-word.new.seat.me.0;
  loaded = c.load_tag-tag.new.seat.me.0;
  was = d.1;
  last = c.unlock_header.ensures.did.0;
  locks = record { before = d.0; looks = d.2; did = d.3 };
  looks = c.look-word.ensures.did;
  loads = c.load_tag-tag.ensures.did;
  unlocks = c.unlock_header.ensures.did.1;
}

pub returns-clause-word : goal.returns-clause-word
returns-clause-word g c = subst (IsWordOf (link c.args.seat.now.me.0 c.args.frame)) (sym (c.look-word.ensures.word.held (fields c.lock_header.result) c.lock_header.ensures.locked.header)) c.lock_header.ensures.word

pub returns-clause-locked : goal.returns-clause-locked
returns-clause-locked g c = ap (λ (w : StateWord). w.locked) (c.look-word.ensures.word.held (fields c.lock_header.result) c.lock_header.ensures.locked.header ∙ c.lock_header.ensures.did.4)

pub returns-clause-tag : goal.returns-clause-tag
returns-clause-tag g c =
    let f = c.args.frame in
    let l = link c.args.seat.now.me.0 f in
    let m = link c.lock_header.new.seat.me.0 f in
    let n = link c.look-word.new.seat.me.0 f in
    let a = c.lock_header.ensures.locked in
    let b = c.look-word.ensures.link in
    let under : Looked (locked_link c.look-word.result l) n = locked_as c.lock_header.result c.look-word.result l m n a b (c.look-word.ensures.word.held (fields c.lock_header.result) a.header) in
    flagged_as n.header (fields c.look-word.result) (is_some c.load_tag-tag.result) under.header (c.load_tag-tag.ensures.flagged (still_settled c.lock_header.result l m n a b (c.requires.rests f).calm.assigned))

pub returns-clause-named : goal.returns-clause-named
returns-clause-named g c = c.load_tag-tag.ensures.named

pub returns-clause-listed : goal.returns-clause-listed
returns-clause-listed g c = c.load_tag-tag.ensures.listed
