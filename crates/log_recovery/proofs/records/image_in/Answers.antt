use Rattle.std.proofs.Common.{refl, sym, ◌∙◌, subst, ◌+◌}
use Rattle.history_core.specs.Log.{IsImage, record_size}
use Rattle.log_recovery.proofs.Shown.{shown, whole_page, is_record}
use Rattle.log_recovery.proofs.records.image_in.Goals as goal

pub returns-in_err-tag-clause-none : goal.returns-in_err-tag-clause-none
returns-in_err-tag-clause-none c = λ is before e r. let s = shown _ _ before _ e r in c.in_err-tag.ensures.none refl s.word s.named

pub returns-then-not-is_image-clause-none : goal.returns-then-not-is_image-clause-none
returns-then-not-is_image-clause-none c = λ is before e r. let s = shown _ _ before _ e r in
    let i = subst (IsImage (c.args.from + record_size)) (whole_page c.args.bytes.now c.requires.long ∙ sym c.take_page.ensures.page) s.image in
    let yes = c.is_image.ensures.1 i in let no = c.if-not-is_image.true in cc

pub returns-clause-some : goal.returns-clause-some
returns-clause-some c = λ before. is_record _ _ before _ _ _ c.requires.long c.requires.room (sym c.number_in.ensures ∙ c.if-number_in-ne-IMAGE.false) (sym c.position_in.ensures ∙ c.if-position_in-from.false) c.in_ok-tag.ensures.named c.take_page.ensures.page (c.is_image.ensures.0 c.if-not-is_image.false)
