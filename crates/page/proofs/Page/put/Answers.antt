-- The test for a full page is the one by which `next` chooses the place.
use Rattle.page.proofs.Laws.{put_inside, put_anew}
use Rattle.page.proofs.Page.put.Goals as goal
use Rattle.page.proofs.Page.put.Goals.{then-self-ge-SIZE, else-self-ge-SIZE}

pub returns : goal.returns
returns c =
    elim c.if-self-ge-SIZE.branch [
      | then-self-ge-SIZE w ↦ rw w.self-is (put_anew _ _ _ w.if-self-ge-SIZE.true w.send.ensures)
      | else-self-ge-SIZE w ↦ rw w.self-is (put_inside _ _ w.if-self-ge-SIZE.false)
    ]
