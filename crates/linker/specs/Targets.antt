-- What is found for a call.
-- It stands for what the call leads to.
use Rattle.linker.specs.Leads.{Leads, Body, Request, Nowhere}
use Rattle.linker.specs.declared.callees.Target.{Target}
use Rattle.linker.specs.declared.callees.Target.TheVariants as found

-- what a target stands for
abbrev pub leads_of : Target → Leads
leads_of (found.Body place params) = Body place params.now
leads_of (found.Request task) = Request task
leads_of found.Nowhere = Nowhere
