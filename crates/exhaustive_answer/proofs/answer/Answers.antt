-- `exhaustive_answer::answer` meets its contract. What is observed, what is counted, and the summary, put together.
use Rattle.lists.proofs.Base.{◌∙◌, arith}
use Rattle.permanova_statistics.proofs.ObservedLots.{sizes-front}
use Rattle.exhaustive_answer.proofs.{JudgedDesigns.judged-sound, JudgedDesigns.judged-weighed, LotCounts.same-ways, LotCounts.judged-is}
use Rattle.exhaustive_answer.proofs.answer.Goals as goal

pub observe-o-requires : goal.observe-o-requires
observe-o-requires c =
    let a = c.requires.judgeable in
    record { weighed = judged-weighed a; z_room = (judged-sound a).few; counts_room = c.requires.counts_room; means_room = c.requires.means_room }

pub count-c-requires : goal.count-c-requires
count-c-requires c = c.requires.judgeable

pub summarise-s-requires : goal.summarise-s-requires
summarise-s-requires c = (judged-sound c.requires.judgeable, omega arith)

pub returns : goal.returns
returns c lot own =
    let a = c.args in
    let told = c.observe-o.ensures lot own.weighs in
    let sizes = sizes-front lot a.counts.now own.weighs.described told.listed.sizes in
    record {
      answer = judged-is lot a.x.now (c.summarise-s.ensures lot own.weighs.described told.result sizes)
          (c.count-c.ensures lot own told.result) c.conclude.ensures
          (c.requires.many ∙ same-ways c.requires.judgeable lot own);
      listed = told.listed;
    }
