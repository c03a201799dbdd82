use Rattle.envy_range.proofs.Viewing.{address-below, own-address, page-view, put-outside, puts-view, room-view, size-below, sum-fits}
use Rattle.envy_range.proofs.within.WithinWords.put.Goals as goal

pub overflow_add-self : goal.overflow_add-self
overflow_add-self g c =
    let v = c.args.self.now in
    sum-fits v.first v.count c.args.a (g.W.Words.sheet v.words) v.fits (g.met.W.Words.lawful v.words) c.requires.address

pub put-requires-clause-address : goal.put-requires-clause-address
put-requires-clause-address g c =
    let v = c.args.self.now in
    address-below v.first v.count c.args.a (g.W.Words.sheet v.words) v.fits c.requires.address

pub put-requires-clause-room : goal.put-requires-clause-room
put-requires-clause-room g c =
    let v = c.args.self.now in
    let s = g.W.Words.sheet v.words in
    room-view v.first v.count c.args.a s v.starts v.whole (own-address v.first v.count c.args.a s v.fits c.requires.address) c.requires.room

pub invariant_of-self : goal.invariant_of-self
invariant_of-self g c =
    let v = c.args.self.now in
    record {
      starts = v.starts;
      whole = v.whole;
      fits = size-below v.first v.count (g.W.Words.sheet v.words) (g.W.Words.sheet c.put.new.self) v.fits c.put.ensures.works.works.long;
    }

pub returns-clause-works : goal.returns-clause-works
returns-clause-works g c =
    let v = c.args.self.now in
    let s = g.W.Words.sheet v.words in
    let t = g.W.Words.sheet c.put.new.self in
    let lt = own-address v.first v.count c.args.a s v.fits c.requires.address in
    page-view v.first v.count c.args.a s t v.starts v.whole v.fits lt (g.met.W.Words.lawful c.put.new.self) (put-outside v.first v.count c.args.a c.args.w c.put.result s t lt c.put.ensures.answer) c.put.ensures.works

pub returns-clause-answer : goal.returns-clause-answer
returns-clause-answer g c =
    let v = c.args.self.now in
    let s = g.W.Words.sheet v.words in
    puts-view v.first v.count c.args.a c.args.w c.put.result s (g.W.Words.sheet c.put.new.self) v.starts (own-address v.first v.count c.args.a s v.fits c.requires.address) c.put.ensures.answer
