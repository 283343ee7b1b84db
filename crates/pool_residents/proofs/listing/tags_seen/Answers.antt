use Rattle.std.proofs.Common.{◌≡◌, ◌∙◌, ℕ, List, All, arith, subst, sym}
use Rattle.std.proofs.lemmas.List.Elements.{All-nil}
use Rattle.block_tag.specs.declared.tag.Tag.{Tag}
use Rattle.frame_table.specs.Seats.{frames_of, relations_of}
use Rattle.pool_residents.specs.Residents.{IsBlockIn, NotesFrames}
use Rattle.pool_residents.proofs.Looking.{looks_none, looks_on}
use Rattle.pool_residents.proofs.Notes.{block_in, notes_more, notes_none}
use Rattle.pool_residents.proofs.listing.tags_seen.Goals as goal

pub returns-in_err-tags-clause-looks : goal.returns-in_err-tags-clause-looks
returns-in_err-tags-clause-looks g c = looks_none {L = g.row.L.Denot} {G = g.row.G.Denot} g.L.BlockLane.contents c.args.manager.now c.args.pass.now c.requires.belongs

pub loop-frame-init : goal.loop-frame-init
loop-frame-init g c =
    let e = c.in_ok-tags.ensures in record {
      looks = looks_none {L = g.row.L.Denot} {G = g.row.G.Denot} g.L.BlockLane.contents c.args.manager.now c.args.pass.now c.requires.belongs;
      notes = notes_none c.args.pass.now.view c.in_ok-tags.tags.items e.items;
      blocks = subst (λ (tags : List Tag). All (IsBlockIn (relations_of c.args.manager.now.table)) tags) (sym e.items) (All-nil (IsBlockIn (relations_of c.args.manager.now.table)));
      few = (let none = e.len in omega arith);
      room = (let wide = e.exact in omega arith);
    }

pub loop-frame-preserved : goal.loop-frame-preserved
loop-frame-preserved g c =
    let i = c.loop-frame.invariant in
    let e = c.inspect-seen.ensures in
    let n = c.note_tag.ensures in record {
      looks = looks_on {L = g.row.L.Denot} {G = g.row.G.Denot} g.L.BlockLane.contents c.args.manager.now c.args.pass.now c.loop-frame.pass c.inspect-seen.new.self i.looks (record { belongs = e.belongs; same = e.same; callers = e.callers; mark = e.mark; marked = e.marked; devices = e.devices });
      notes = notes_more c.args.pass.now.view c.loop-frame.frame c.loop-frame.pass.view c.inspect-seen.new.self.view c.inspect-seen.result c.loop-frame.tags.items c.note_tag.new.tags.items e.inspects (λ valid. e.tag ∙ e.word.valid valid) n.noted i.notes;
      blocks = n.blocks (relations_of c.args.manager.now.table) (block_in (relations_of c.args.manager.now.table) c.inspect-seen.result.tag e.named e.listed) i.blocks;
      few = (let few = i.few in let more = n.few in omega arith);
      room = (let room = i.room in let same = n.capacity in omega arith);
    }

pub returns-clause-notes : goal.returns-clause-notes
returns-clause-notes g c =
    let all : c.loop-frame.frame ≡ frames_of c.args.manager.now.table = omega arith in
    subst (λ (n : ℕ). NotesFrames c.args.pass.now.view n c.loop-frame.pass.view c.loop-frame.tags.items) all c.loop-frame.invariant.notes
