use Rattle.std.proofs.Common.{sym, ap, subst, ◌∙◌}
use Rattle.packed.specs.Fields as spec
use Rattle.packed.proofs.Placing.{packed_back, words_are_packed}
use Rattle.packed.proofs.bits.BitsStateForm.repack.Goals as goal

pub returns-clause-form : goal.returns-clause-form
returns-clause-form g c =
    subst (λ words. spec.ArePacked g.row.WORDS c.args.layout.now words) (sym c.words_of-self.ensures)
    (words_are_packed g.row.WORDS c.args.layout.now c.args.state.now c.requires.form.fits c.requires.state)

pub returns-clause-values : goal.returns-clause-values
returns-clause-values g c =
    ap (λ words. spec.values_in words c.args.layout.now) c.words_of-self.ensures
    ∙ packed_back g.row.WORDS c.args.layout.now c.args.state.now c.requires.form.fits c.requires.state
