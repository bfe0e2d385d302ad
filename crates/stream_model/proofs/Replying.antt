-- One reply to an event.
use Rattle.std.proofs.Common.{◌≡◌, Option, Some, None, refl, sym, ◌∙◌}
use Rattle.spl_value.specs.declared.item.Fault.{Fault}
use Rattle.spl_value.specs.declared.item.Item.TheVariants as I
use Rattle.stream_model.specs.declared.reply.Reply.TheVariants as R
use Rattle.stream_model.specs.Replies.{ReplyLaw, end_by}

same_end : (x y : Option Fault) → end_by x ≡ end_by y → x ≡ y
same_end None None q = refl
same_end None (Some f) q = absurd (let no : I.Final ≡ I.Bad f = q in cc)
same_end (Some f) None q = absurd (let no : I.Bad f ≡ I.Final = q in cc)
same_end (Some f) (Some g) q = let same : I.Bad f ≡ I.Bad g = q in cc

pub reply_law : ReplyLaw
reply_law op h e (R.Out outs) (R.Out others) given also t u = let same : outs ≡ others = given.0 ∙ sym also.0 in cc
reply_law op h e (R.Out outs) (R.Ended others x) given also t u = absurd (let no : None ≡ Some (end_by x) = sym given.1 ∙ also.1 in cc)
reply_law op h e (R.Ended outs x) (R.Out others) given also t u = absurd (let no : None ≡ Some (end_by x) = sym also.1 ∙ given.1 in cc)
reply_law op h e (R.Ended outs x) (R.Ended others y) given also t u =
    let same : outs ≡ others = given.0 ∙ sym also.0 in
    let ends : Some (end_by x) ≡ Some (end_by y) = sym given.1 ∙ also.1 in
    let faults : x ≡ y = same_end x y (let e : end_by x ≡ end_by y = cc in e) in cc
reply_law op h e R.Memory s given also t u = absurd t
reply_law op h e (R.Out outs) R.Memory given also t u = absurd u
reply_law op h e (R.Ended outs x) R.Memory given also t u = absurd u
