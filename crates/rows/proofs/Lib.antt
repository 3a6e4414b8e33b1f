mod Handing
mod ManyLinks
