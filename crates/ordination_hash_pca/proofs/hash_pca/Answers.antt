-- `ordination_hash_pca::hash_pca` meets its contract. The lengths and the components are judged first.
use Rattle.lists.proofs.Base.{refl, sym, ◌∙◌, min-le_right, arith, length}
use Rattle.ordination_coordinates.proofs.{Lines.asked, HashPcaLengths.lent}
use Rattle.ordination_hash_pca.proofs.CallHalves.{call-is}
use Rattle.ordination_hash_pca.proofs.hash_pca.Goals as goal

pub is_lacking-short-requires : goal.is_lacking-short-requires
is_lacking-short-requires c =
    let args = c.args in
    omega (arith, c.components_used-k.ensures, min-le_right args.components args.n)

pub ordinate_sets-requires : goal.ordinate_sets-requires
ordinate_sets-requires c =
    let a = c.args in record {
      k_le_n = (
        omega (arith, c.components_used-k.ensures, min-le_right a.components a.n),
        λ e. omega (arith, c.components_used-k.ensures, (asked _ a.n (sym c.bad_components-beyond.ensures ∙ e) refl).most),
      );
      lent = λ e. lent c.components_used-k.result a.n (length a.out.now) (length a.gram.now) (length a.eigenpairs.now)
          (length a.rotated.now) (length a.vectors.now) (length a.words.now) (sym c.is_lacking-short.ensures ∙ e);
    }

pub returns : goal.returns
returns c =
    let a = c.args in
    call-is a.components a.n a.hashes.now a.offsets.now a.out.now a.gram.now a.eigenpairs.now a.rotated.now
    a.vectors.now a.words.now c.components_used-k.ensures c.is_lacking-short.ensures
    c.bad_components-beyond.ensures c.ordinate_sets.ensures
