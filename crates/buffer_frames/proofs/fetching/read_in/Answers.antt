use Rattle.std.proofs.Common.{◌≡◌, ℕ, Some, true, refl, subst, sym, ◌∙◌}
use Rattle.block_tag.specs.Names.{packed_tag}
use Rattle.state_word.specs.declared.word.IoEnd.TheVariants.{Bad, ReadOk}
use Rattle.pin_core.specs.State.{link}
use Rattle.frame_table.proofs.Rising.{rises_on, rises_touched}
use Rattle.buffer_frames.specs.Rests.{LinksRestBeside}
use Rattle.buffer_frames.specs.Working.{Works}
use Rattle.buffer_frames.specs.declared.fetching.FetchError.TheVariants.{ReadFault, Unsound}
use Rattle.buffer_frames.proofs.Keeping.{beside_kept}
use Rattle.buffer_frames.proofs.Unread.{ends_unread}
use Rattle.buffer_frames.proofs.WorkSteps.{headless}
use Rattle.buffer_frames.proofs.Works.{and_ended, and_looked, works_none, works_then}
use Rattle.buffer_frames.proofs.fetching.read_in.Goals as goal

pub returns-then-not-read_lane-clause-works : goal.returns-then-not-read_lane-clause-works
returns-then-not-read_lane-clause-works g c = let e = c.end_io.ensures in
    and_ended Bad (subst (λ (x : ℕ). Works x c.args.table.now c.args.seat.now c.read_lane.new.seat)
    c.frame-frame.ensures c.read_lane.ensures.works) e.seat e.touches e.marks.1 e.ended

pub returns-then-not-read_lane-clause-unread : goal.returns-then-not-read_lane-clause-unread
returns-then-not-read_lane-clause-unread g c = let r = c.read_lane.ensures in
    ends_unread ReadFault c.args.tag c.args.right.frame c.frame-frame.result c.args.seat.now.me.0
    c.read_lane.new.seat.me.0 c.end_io.new.seat.me.0 c.frame-frame.ensures r.works.work.advances
    c.end_io.ensures.did r.reads.right r.reads.remembered (λ no. absurd (cc))

pub end_io-requires-then-not-is_sound-clause-headless : goal.end_io-requires-then-not-is_sound-clause-headless
end_io-requires-then-not-is_sound-clause-headless g c = let f = c.frame-frame.result in
    let k = c.look.ensures in let r = c.read_lane.ensures in
    headless c.args._held.now f c.look.new.seat.me.0 (beside_kept f c.args._held.now
    c.args.seat.now.me.0 c.look.new.seat.me.0 (λ h n. k.touches.others h n
    ∙ r.works.work.others h n) (subst (λ (x : ℕ). LinksRestBeside x c.args._held.now
    c.args.seat.now.me.0) (sym c.frame-frame.ensures) c.requires.others))
    (k.link.header ∙ r.reads.no_header)

pub returns-then-not-is_sound-clause-works : goal.returns-then-not-is_sound-clause-works
returns-then-not-is_sound-clause-works g c = let k = c.look.ensures in
    let e = c.end_io-then-not-is_sound.ensures in
    and_ended Bad (subst (λ (x : ℕ). Works x c.args.table.now c.args.seat.now c.look.new.seat)
    c.frame-frame.ensures (and_looked c.read_lane.ensures.works k.seat k.touches k.marks k.link))
    e.seat e.touches e.marks.1 e.ended

pub returns-then-not-is_sound-clause-shows : goal.returns-then-not-is_sound-clause-shows
returns-then-not-is_sound-clause-shows g c = let r = c.read_lane.ensures in
    let unsound = sym c.is_sound.ensures ∙ c.if-not-is_sound.true in record {
      page = c.read_lane.new.page;
      unsound = unsound;
      was = c.look.ensures.opening.unsound c.args.tag c.read_lane.new.page r.reads.remembered
          c.if-not-read_lane.ensures.given unsound;
    }

pub returns-then-not-is_sound-clause-unread : goal.returns-then-not-is_sound-clause-unread
returns-then-not-is_sound-clause-unread g c = let r = c.read_lane.ensures in
    let k = c.look.ensures in
    ends_unread Unsound c.args.tag c.args.right.frame c.frame-frame.result c.args.seat.now.me.0
    c.look.new.seat.me.0 c.end_io-then-not-is_sound.new.seat.me.0 c.frame-frame.ensures
    (rises_on _ c.read_lane.new.seat.me.0 _ r.works.work.advances (rises_touched
    c.frame-frame.result c.read_lane.new.seat.me.0 c.look.new.seat.me.0 k.touches))
    c.end_io-then-not-is_sound.ensures.did (k.link.io ∙ r.reads.right)
    (k.link.tag ∙ r.reads.remembered) (λ is. record {
      page = c.read_lane.new.page;
      read = k.link.read ∙ c.if-not-read_lane.ensures.given;
      unsound = sym c.is_sound.ensures ∙ c.if-not-is_sound.true;
    })

pub returns-clause-works : goal.returns-clause-works
returns-clause-works g c = let e = c.end_io-2.ensures in let k = c.look-2.ensures in
    let ended = and_ended ReadOk (subst (λ (x : ℕ). Works x c.args.table.now c.args.seat.now
    c.install_page.new.seat) c.frame-frame.ensures
    (works_then c.read_lane.ensures.works c.install_page.ensures.works))
    e.seat e.touches e.marks.1 e.ended in
    works_then ended (subst (λ (x : ℕ). Works x c.args.table.now c.end_io-2.new.seat
    c.look-2.new.seat) c.frame-frame.ensures (and_looked (works_none c.frame-frame.result
    ended.stands) k.seat k.touches k.marks k.link))

pub returns-clause-shows : goal.returns-clause-shows
returns-clause-shows g c = let e = c.end_io-2.ensures in let k = c.look-2.ensures in
    let same = c.frame-frame.ensures in
    k.opening.valid c.args.tag (subst (λ (x : ℕ). (link c.end_io-2.new.seat.me.0 x).tag
    ≡ Some (packed_tag c.args.tag)) (sym same) (e.ended.tag ∙ subst (λ (x : ℕ).
    (link c.install_page.new.seat.me.0 x).tag ≡ Some (packed_tag c.args.tag)) same
    c.install_page.ensures.reads.remembered)) (k.word.seen (subst (λ (x : ℕ).
    (link c.end_io-2.new.seat.me.0 x).seen_valid ≡ true) (sym same) (e.seen refl)))
