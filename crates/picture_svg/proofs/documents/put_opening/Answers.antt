use Rattle.picture_svg.specs.Documents.{opening_text}
use Rattle.picture_svg.proofs.WritingLaws.{ends_3}
use Rattle.picture_svg.proofs.documents.put_opening.Goals as goal

pub returns : goal.returns
unfolding opening_text
returns c = ends_3 c.write-2.result _ _ _ _ _ _ _ c.in_ok-push_str.ensures.bytes c.in_ok-write.ensures.bytes c.write-2.ensures.bytes
